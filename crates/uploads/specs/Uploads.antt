-- One event on a strip reader's line: the whole of it, on its record, what is kept of the reader, the ledger and the lent bytes.
-- Assumes nothing.
use Rattle.journal.specs.declared.Refusal.{Refusal}
use Rattle.std.specs.Prelude.{ℕ, ◌+◌, List, [], ltb, length, Result, Ok, Err}
use Rattle.memory.specs.Sizes.{lines}
use Rattle.memory.specs.Parts.{splice}
use Rattle.memory.specs.Tests.{unless}
use Rattle.journal.specs.Verdicts.{judge_of}
use Rattle.journal.specs.Storage.{grown, appended}
use Rattle.journal.specs.declared.Ledger.{Ledger}
use Rattle.settings.specs.declared.Patient.{Patient}
use Rattle.line.specs.Line.{block_within}
use Rattle.line.specs.declared.Line.{Line}
use Rattle.line.specs.declared.State.TheVariants.{Neutral, Inside}
use Rattle.answers.specs.declared.Answer.{Answer}
use Rattle.answers.specs.declared.Answer.TheVariants.{Nothing, Filed, Crowded, NoLine, WrongSize, BeyondLimits, Broken, Malformed}
use Rattle.looking.specs.Views.{frames_of, frame_bytes}
use Rattle.looking.specs.Lent.{right_sizes}
use Rattle.looking.specs.declared.Event.{Event}
use Rattle.looking.specs.declared.Kind.{Kind}
use Rattle.looking.specs.declared.Kind.TheVariants.{Byte, Seconds}
use Rattle.receiving.specs.Settled.{with_byte}
use Rattle.receiving.specs.Steps.{Memory, AfterStep}
use Rattle.block.specs.Judged.{judged_of}
use Rattle.finding.specs.Findings.{finding_of}
use Rattle.strips.specs.Readers.{Memo, is_again}
use Rattle.strips.specs.Sights.{sight_of}
use Rattle.strips.specs.Hearings.{filed_reader, hearing_of}
use Rattle.strips.specs.declared.Reader.{Reader}
use Rattle.strips.specs.declared.Hearing.{Hearing}
use Rattle.strips.specs.declared.Sight.{Sight}
use Rattle.strips.specs.declared.Sight.TheVariants.{Ignores, Adds, Judges}

-- a byte is added to the block: inside, and one more collected [B6]
abbrev pub added_line : Line → Line
added_line l =
    record { state = Inside; collected = l.collected + 1; joined = l.joined; seconds = l.seconds; next = l.next; last = l.last; refusing = l.refusing; settings = l.settings }

-- a judged block: the counts are 0, and the line is neutral [B7]
abbrev pub judged_line : Line → Line
judged_line l =
    record { state = Neutral; collected = 0; joined = 0; seconds = 0; next = l.next; last = l.last; refusing = l.refusing; settings = l.settings }

-- what is done with the line: nothing; the byte is added; the block is judged, and this is kept of the reader then; or its finding is stored besides
pub data Deed : Type 0 where
  leave : Deed
  add : Deed
  settle : Reader → Deed
  file : Deed

-- and the answer
pub record Ruling : Type 0 where
  pub deed : Deed
  pub answer : Answer

abbrev pub ruling : Deed → Answer → Ruling
ruling x a = record { deed = x; answer = a }

-- what the journal says of a finding: 43, 31, or it is stored. That it has no line, no right size or no text is never asked here. [A4, A31, A43, B9]
abbrev pub filing : Result (Unit {0}) Refusal → Reader → Ruling
filing (Ok tt) r = ruling file Filed
filing (Err Refusal.NoRoom) r = ruling (settle r) Crowded
filing (Err Refusal.Broken) r = ruling leave Broken
filing (Err Refusal.NoLine) r = ruling leave NoLine
filing (Err Refusal.WrongSize) r = ruling leave WrongSize
filing (Err Refusal.Malformed) r = ruling leave Malformed

-- a whole block: only one whose finding is to be stored asks the journal [B9]
abbrev pub heard_by : Hearing → Reader → Result (Unit {0}) Refusal → Ruling
heard_by h r j = unless h.stores (ruling (settle h.reader) h.answer) (filing j r)

-- the block that a byte makes, with what the line has of the frames
abbrev pub block_bytes : Line → ℕ → List ℕ → List ℕ
block_bytes l b frames = frame_bytes l b frames

abbrev pub judged_block : List ℕ → Patient → Line → Memo → Ledger → ℕ → List ℕ → List ℕ → Ruling
judged_block shares p l w d i bs journal =
    heard_by (hearing_of (judged_of p bs) (is_again w bs) w.reader) w.reader (judge_of d shares i (length (finding_of p bs)) journal)

abbrev pub seen_as : Sight → Ruling → Ruling
seen_as Ignores whole = ruling leave Nothing
seen_as Adds whole = ruling add Nothing
seen_as Judges whole = whole

-- the work on the line's own parts: seconds are ignored [B6]
unfoldable pub ruling_of : List ℕ → Patient → Line → Memo → Ledger → ℕ → Kind → List ℕ → List ℕ → Ruling
ruling_of shares p l w d i (Byte b) journal frames = seen_as (sight_of p l b) (judged_block shares p l w d i (block_bytes l b frames) journal)
ruling_of shares p l w d i (Seconds s) journal frames = ruling leave Nothing

-- ---- what is left

-- the line's record
abbrev pub line_by : Deed → Line → Line
line_by leave l = l
line_by add l = added_line l
line_by (settle r) l = judged_line l
line_by file l = judged_line l

-- the byte is added behind those collected [B7]
abbrev pub frames_by : Deed → Kind → Line → ℕ → List ℕ → List ℕ
frames_by leave k l i frames = frames
frames_by add k l i frames = with_byte k l i frames
frames_by (settle r) k l i frames = with_byte k l i frames
frames_by file k l i frames = with_byte k l i frames

-- what is kept of the reader; a stored block takes the place of the one before [B7]
abbrev pub memo_by : Deed → Memo → List ℕ → Memo
memo_by leave w bs = w
memo_by add w bs = w
memo_by (settle r) w bs = record { reader = r; block = w.block }
memo_by file w bs = record { reader = filed_reader; block = splice w.block 0 bs }

-- ledger and journal [B9]
abbrev pub ledger_by : Deed → Ledger → ℕ → List ℕ → Ledger
ledger_by leave d i text = d
ledger_by add d i text = d
ledger_by (settle r) d i text = d
ledger_by file d i text = grown d i (length text)

abbrev pub journal_by : Deed → Ledger → ℕ → List ℕ → List ℕ → List ℕ
journal_by leave d i text journal = journal
journal_by add d i text journal = journal
journal_by (settle r) d i text journal = journal
journal_by file d i text journal = appended d i text journal

-- the block that an event ends, where it is a byte
abbrev pub block_of : Kind → Line → List ℕ → List ℕ
block_of (Byte b) l frames = block_bytes l b frames
block_of (Seconds s) l frames = []

-- after an event: as after a step of a line of frames, and what is kept of the reader
pub record AfterUpload : Type 0 where
  pub step : AfterStep
  pub memo : Memo

-- what a ruling leaves; no unfinished byte is written [B7]
abbrev pub uploaded : Ruling → Patient → Line → Memo → Ledger → Event → Memory → AfterUpload
uploaded x p l w d e m =
    let bs = block_of e.kind l (frames_of e.line m.frames) in
    record {
      step = record {
        stepped = record { line = line_by x.deed l; ledger = ledger_by x.deed d e.line (finding_of p bs); answer = x.answer };
        memory = record {
          journal = journal_by x.deed d e.line (finding_of p bs) m.journal;
          unfinished = m.unfinished;
          frames = frames_by x.deed e.kind l e.line m.frames;
        };
      };
      memo = memo_by x.deed w bs;
    }

-- 40, 41, 42, then the work [O3]
unfoldable pub ruling_on : List ℕ → Patient → Line → Memo → Ledger → Event → Memory → Ruling
ruling_on shares p l w d e m =
    unless (ltb e.line lines) (ruling leave NoLine)
    (unless (right_sizes m.journal m.unfinished m.frames) (ruling leave WrongSize)
    (unless (block_within p l) (ruling leave BeyondLimits)
    (ruling_of shares p l w d e.line e.kind m.journal (frames_of e.line m.frames))))

-- an event on a reader's line with this record: look, then act
unfoldable pub upload_of : List ℕ → Patient → Line → Memo → Ledger → Event → Memory → AfterUpload
upload_of shares p l w d e m = uploaded (ruling_on shares p l w d e m) p l w d e m

-- One event on the gateway, the start of a sending, and one taking: on eight records, what is kept of the readers, the ledger and the lent bytes.
-- Assumes nothing.
use Rattle.answers.specs.declared.Answer.{Answer}
use Rattle.std.specs.Prelude.{ℕ, false, List, map, length, get_or, set, replicate, ltb, None, Result}
use Rattle.memory.specs.Sizes.{lines}
use Rattle.memory.specs.Tests.{unless}
use Rattle.settings.specs.Settings.{standard_settings, by_dialogue}
use Rattle.settings.specs.declared.Settings.{Settings}
use Rattle.settings.specs.declared.Dialogue.{Dialogue}
use Rattle.journal.specs.Chain.{fresh_ledger}
use Rattle.journal.specs.Removal.{take_of as take_entry}
use Rattle.taking.specs.Taking.{took_answer}
use Rattle.line.specs.Line.{started_line, record_within}
use Rattle.line.specs.declared.Line.{Line}
use Rattle.line.specs.declared.State.TheVariants.{Neutral}
use Rattle.answers.specs.declared.Answer.TheVariants.{NoLine}
use Rattle.looking.specs.declared.Event.{Event}
use Rattle.receiving.specs.Steps.{Memory, AfterStep, step_of}
use Rattle.strips.specs.Readers.{Memo, fresh_memo}
use Rattle.uploads.specs.Uploads.{AfterUpload, upload_of}
use Rattle.orders.specs.Starts.{can_start, start_look, start_answer, line_started, texts_started}
use Rattle.gateway.specs.Gateway.{Gateway, Handled}

-- every line as it is set, nothing heard of any reader, the journal empty [E3, B1]
abbrev pub started_gateway : List Settings → Gateway
started_gateway ts = record { lines = map started_line ts; memos = replicate lines fresh_memo; ledger = fresh_ledger }

-- every line speaks frames, unless it is said otherwise [E3]
abbrev pub fresh_gateway : Gateway
fresh_gateway = started_gateway (replicate lines standard_settings)

-- line i's record; past the end, what a read gives there
abbrev pub no_record : Line
no_record = record { state = Neutral; collected = 0; joined = 0; seconds = 0; next = 0; last = None; refusing = false; settings = standard_settings }

abbrev pub line_at : Gateway → ℕ → Line
line_at g i = get_or g.lines i no_record

-- what line i speaks
abbrev pub dialogue_at : Gateway → ℕ → Dialogue
dialogue_at g i = (line_at g i).settings.dialogue

-- what is kept of the reader on line i
abbrev pub memo_at : Gateway → ℕ → Memo
memo_at g i = get_or g.memos i fresh_memo

pub record AfterEvent : Type 0 where
  pub handled : Handled
  pub memory : Memory

-- the step's outcome put back into the gateway [L11]
abbrev pub put_back : Gateway → ℕ → AfterStep → AfterEvent
put_back g i s = record {
  handled = record {
    gateway = record { lines = set g.lines i s.stepped.line; memos = g.memos; ledger = s.stepped.ledger };
    answer = s.stepped.answer;
  };
  memory = s.memory;
}

-- and that of an event on a reader's line, with what is kept of the reader then [B7]
abbrev pub put_upload : Gateway → ℕ → AfterUpload → AfterEvent
put_upload g i u = record {
  handled = record {
    gateway = record { lines = set g.lines i u.step.stepped.line; memos = set g.memos i u.memo; ledger = u.step.stepped.ledger };
    answer = u.step.stepped.answer;
  };
  memory = u.step.memory;
}

-- an event on the gateway: 40, or the step of its own line, by what that speaks [B1]
unfoldable pub event_of : List ℕ → Gateway → Event → Memory → AfterEvent
event_of shares g e m =
    unless (ltb e.line lines) (record { handled = record { gateway = g; answer = NoLine }; memory = m })
    (by_dialogue (dialogue_at g e.line)
    (put_back g e.line (step_of shares (line_at g e.line) g.ledger e m))
    (λ p. put_upload g e.line (upload_of shares p (line_at g e.line) (memo_at g e.line) g.ledger e m)))

-- what a start leaves: it sees its own line's record and part of the unfinished texts, and of the other memories their lengths [L11, L13]
abbrev pub started_with : Result (Unit {0}) Answer → Gateway → ℕ → List ℕ → Memory → AfterEvent
started_with x g i text m = record {
  handled = record {
    gateway = record { lines = set g.lines i (line_started x (line_at g i) text); memos = g.memos; ledger = g.ledger };
    answer = start_answer x;
  };
  memory = record { journal = m.journal; unfinished = texts_started x i text m.unfinished; frames = m.frames };
}

-- on a reader's line nothing is started: 60 [B1]
abbrev pub start_in : Gateway → ℕ → List ℕ → Memory → Result (Unit {0}) Answer
start_in g i text m = start_look i (record_within (line_at g i)) (can_start (line_at g i)) text (length m.journal) (length m.unfinished) (length m.frames)

unfoldable pub start_of : Gateway → ℕ → List ℕ → Memory → AfterEvent
start_of g i text m = started_with (start_in g i text m) g i text m

pub record AfterTake : Type 0 where
  pub handled : Handled
  pub journal : List ℕ
  pub buffer : List ℕ

-- a taking: it sees the journal and its buffer, and no line [L12]
unfoldable pub take_of : Gateway → ℕ → List ℕ → List ℕ → AfterTake
take_of g i j b = record {
  handled = record {
    gateway = record { lines = g.lines; memos = g.memos; ledger = (take_entry g.ledger i j b).taking.ledger };
    answer = took_answer (take_entry g.ledger i j b).taking.answer;
  };
  journal = (take_entry g.ledger i j b).journal;
  buffer = (take_entry g.ledger i j b).buffer;
}

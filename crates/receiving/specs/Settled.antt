-- What is left after an act: `row_of` says it row by row, and what stands below reads the rows.
-- Assumes nothing.
use Rattle.std.specs.Prelude.{ℕ, ◌+◌, Bool, true, false, cond, List, length, set, None, Option, Some}
use Rattle.memory.specs.Parts.{splice}
use Rattle.journal.specs.Storage.{grown, appended}
use Rattle.journal.specs.declared.Ledger.{Ledger}
use Rattle.line.specs.Line.{opened_line, closed_line, begun_line, collected_line, counted_line, waiting_line, accepted_line, refusing_line, gone_line}
use Rattle.line.specs.declared.Line.{Line}
use Rattle.looking.specs.Views.{frame_start, text_start, frames_of, frame_text}
use Rattle.looking.specs.declared.Kind.{Kind}
use Rattle.looking.specs.declared.Kind.TheVariants.{Byte, Seconds}
use Rattle.looking.specs.declared.Act.{Act}
use Rattle.looking.specs.declared.Act.TheVariants.{Leave, Open, Close, Begin, Count, Collect, Refuse, Accept, Store, Object, Await, Go}

-- what a row does
pub record Row : Type 0 where
  -- the line's record, by the one before
  pub line : Line → Line
  -- whether the byte is added to the line's frame bytes
  pub adds : Bool
  -- how many bytes of the frame's text are written behind the joined text, if any
  pub writes : Option ℕ
  -- whether the text that the line then has is stored
  pub stores : Bool

-- the rows, one for each act
abbrev pub row_of : Act → Row
-- an ignored event (0), 20 and 40 to 43: nothing changes [L1]
row_of Leave = record { line = λ l. l; adds = false; writes = None; stores = false }
-- 1: the line waits; its counts are 0, its next number is 1, it has no last number and does not refuse [L5]
row_of Open = record { line = opened_line; adds = false; writes = None; stores = false }
-- 5, 6 and 7, our EOT (9) and 61: the same, but the line is neutral [L6, L15]
row_of Close = record { line = closed_line; adds = false; writes = None; stores = false }
-- STX (0): the line is inside a frame, and nothing else changes [L4]
row_of Begin = record { line = begun_line; adds = false; writes = None; stores = false }
-- seconds (0): n are counted now [L3]
row_of (Count n) = record { line = λ l. counted_line l n; adds = false; writes = None; stores = false }
-- a collected byte (0): it is added, and counted [L2]
row_of Collect = record { line = λ l. collected_line l (l.collected + 1); adds = true; writes = None; stores = false }
-- 3 and 21 to 29, as every judged frame: its last byte is added, and the line waits with nothing collected and no seconds [L7]
row_of Refuse = record { line = waiting_line; adds = true; writes = None; stores = false }
-- 2: besides, the n bytes of the frame's text are written and counted as joined; the number advances [L8]
row_of (Accept n) = record { line = λ l. accepted_line l (l.joined + n); adds = true; writes = Some n; stores = false }
-- 4: besides, they are written and the whole text is stored; nothing is joined any more; the number advances [F9, L9]
row_of (Store n) = record { line = λ l. accepted_line l 0; adds = true; writes = Some n; stores = true }
-- 30, 31 and faults: besides, they are written; nothing is joined any more; the line refuses [L10]
row_of (Object n) = record { line = refusing_line; adds = true; writes = Some n; stores = false }
-- 9, where a sending waits on: n seconds are counted now [L14]
row_of (Await n) = record { line = λ l. counted_line l n; adds = false; writes = None; stores = false }
-- 9, where something is sent or the pause begins: the sending is so far, with the number of its frame, and no seconds [L14]
row_of (Go s n) = record { line = λ l. gone_line l s n; adds = false; writes = None; stores = false }

-- the line's record
abbrev pub line_after : Act → Line → Line
line_after a l = (row_of a).line l

-- the frames: a byte is added behind the line's collected ones [L2, L11]
abbrev pub with_byte : Kind → Line → ℕ → List ℕ → List ℕ
with_byte (Byte b) l i frames = set frames (frame_start i + l.collected) b
with_byte (Seconds s) l i frames = frames

abbrev pub frames_after : Act → Kind → Line → ℕ → List ℕ → List ℕ
frames_after a k l i frames = cond (row_of a).adds (with_byte k l i frames) frames

-- what a row that writes makes of something by the length of the frame's text; the others leave it
abbrev pub by_length : {A : Type 0} → Option ℕ → A → (ℕ → A) → A
by_length None old new = old
by_length (Some n) old new = new n

-- the unfinished texts: the frame's text is written behind the line's joined one [L8, L11]
abbrev pub with_text : Line → ℕ → ℕ → List ℕ → List ℕ → List ℕ
with_text l i n unfinished frames = splice unfinished (text_start i + l.joined) (frame_text n (frames_of i frames))

abbrev pub texts_after : Act → Line → ℕ → List ℕ → List ℕ → List ℕ
texts_after a l i unfinished frames = by_length (row_of a).writes unfinished (λ n. with_text l i n unfinished frames)

-- ledger and journal, where `text n` is the text that the line has with n bytes of this frame
abbrev pub ledger_after : Act → Ledger → ℕ → (ℕ → List ℕ) → Ledger
ledger_after a d i text = cond (row_of a).stores (by_length (row_of a).writes d (λ n. grown d i (length (text n)))) d

abbrev pub journal_after : Act → Ledger → ℕ → (ℕ → List ℕ) → List ℕ → List ℕ
journal_after a d i text journal = cond (row_of a).stores (by_length (row_of a).writes journal (λ n. appended d i (text n) journal)) journal

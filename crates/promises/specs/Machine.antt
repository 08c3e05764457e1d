-- The gateway as a machine that runs events, starts of sendings and takings: its state is the gateway and the three lent memories.
-- A taking's buffer comes with it, and what the buffer holds afterwards is part of its answer; so is what goes out in a sending, and to a strip reader.
-- Assumes nothing.
use Rattle.std.specs.Prelude.{ℕ, ◌<◌, ◌≡◌, Bool, true, false, List, length}
use Rattle.memory.specs.Sizes.{lines, frame_limit, unfinished_size, frames_size}
use Rattle.header.specs.Entry.{Entry}
use Rattle.room.specs.Room.{todays_shares}
use Rattle.journal_laws.specs.Held.{Held}
use Rattle.journal_laws.specs.Runs.{State as Store}
use Rattle.settings.specs.Settings.{by_dialogue, block_limit}
use Rattle.line.specs.Line.{record_within}
use Rattle.line.specs.declared.Line.{Line}
use Rattle.answers.specs.Paper.{number_of, first_out}
use Rattle.answers.specs.InNumbers.{reply_byte}
use Rattle.answers.specs.declared.Answer.{Answer}
use Rattle.sending.specs.Offered.{frame_now}
use Rattle.looking.specs.Views.{frames_of, texts_of, unfinished_text}
use Rattle.receiving.specs.Steps.{Memory, memory_of}
use Rattle.strips.specs.Readers.{Memo}
use Rattle.gateway.specs.Events.{AfterEvent, AfterTake, line_at, memo_at, event_of, start_of, take_of}
use Rattle.gateway.specs.Out.{out_bytes, block_out}
use Rattle.looking.specs.declared.Event.{Event}
use Rattle.gateway.specs.Gateway.{Gateway}
use Rattle.looking.specs.declared.Kind.{Kind}
use Rattle.gateway_laws.specs.Classes.{Class, class_of, quiet, opening, closing, refusing, accepting, storing, against, taking as gives, sending, hearing}
use Rattle.serial.specs.Serial.{Item, event, taking}

pub record State : Type 0 where
  pub gateway : Gateway
  pub memory : Memory

-- the answer to an item, and what the buffer of a taking then holds, or what goes out in a sending or to a reader
pub record Response : Type 0 where
  pub answer : Answer
  pub buffer : List ℕ

abbrev pub response : Answer → List ℕ → Response
response a b = record { answer = a; buffer = b }

-- what comes on a line: a byte or seconds, or the start of a sending with its text
pub data Coming : Type 0 where
  happens : Kind → Coming
  starts : List ℕ → Coming

-- an item: an event on a line; or a taking from a line into a buffer
abbrev pub GatewayItem : Type 0
GatewayItem = Item Coming (List ℕ)

-- the item of what has come on line i, and of a text that is to be sent there
abbrev pub came : ℕ → Kind → GatewayItem
came i k = event i (happens k)

abbrev pub starting : ℕ → List ℕ → GatewayItem
starting i text = event i (starts text)

abbrev pub on_line : ℕ → Kind → Event
on_line i k = record { line = i; kind = k }

-- what line i has to itself: its record, its parts of the lent memory, and what is kept of a reader there
pub record Parts : Type 0 where
  pub line : Line
  pub texts : List ℕ
  pub frames : List ℕ
  pub memo : Memo

abbrev pub parts_of : State → ℕ → Parts
parts_of s i = record {
  line = line_at s.gateway i;
  texts = texts_of i s.memory.unfinished;
  frames = frames_of i s.memory.frames;
  memo = memo_at s.gateway i;
}

-- what goes out with an answer, where its line then has these parts: in a sending [S2]; and to a reader [B11]
abbrev pub frames_out : Answer → Parts → List ℕ
frames_out a p = out_bytes (number_of a) (reply_byte (first_out a)) (frame_now frame_limit p.line (unfinished_text p.line p.texts))

abbrev pub goes_out : Answer → Parts → List ℕ
goes_out a p = by_dialogue p.line.settings.dialogue (frames_out a p) (λ patient. block_out (reply_byte (first_out a)) p.memo.reader.reply)

-- an answer with what goes out by it
abbrev pub told : Answer → Parts → Response
told a p = response a (goes_out a p)

abbrev pub left_by : AfterEvent → State
left_by r = record { gateway = r.handled.gateway; memory = r.memory }

abbrev pub after_event : ℕ → AfterEvent → Response × State
after_event i r = (told r.handled.answer (parts_of (left_by r) i), left_by r)

abbrev pub after_take : Memory → AfterTake → Response × State
after_take m r = (response r.handled.answer r.buffer, record { gateway = r.handled.gateway; memory = memory_of r.journal m.unfinished m.frames })

abbrev pub step : State → GatewayItem → Response × State
step s (event i (happens k)) = after_event i (event_of todays_shares s.gateway (on_line i k) s.memory)
step s (event i (starts text)) = after_event i (start_of s.gateway i text s.memory)
step s (taking i b) = after_take s.memory (take_of s.gateway i s.memory.journal b)

-- 4 stores a message; 30, 31 and faults finally refuse a complete text; 11 and 70 to 72 do not decide
abbrev pub is_decision : Class → Bool
is_decision quiet = false
is_decision opening = false
is_decision closing = false
is_decision refusing = false
is_decision accepting = false
is_decision storing = true
is_decision against = true
is_decision gives = false
is_decision sending = false
is_decision hearing = false

abbrev pub decides : Response → Bool
decides t = is_decision (class_of t.answer)

-- what all lines share: the ledger and the journal
abbrev pub store_of : State → Store
store_of s = record { ledger = s.gateway.ledger; journal = s.memory.journal }

-- what holds of every state of a run: eight records within their limits, each by what its line speaks, and eight kept blocks; memory of the right sizes; and a journal
-- that is whole and keeps every share
pub record Sound (s : State) : Type 0 where
  pub as_many : length s.gateway.lines ≡ lines
  pub as_many_memos : length s.gateway.memos ≡ lines
  pub within : (i : ℕ) → i < lines → record_within (line_at s.gateway i) ≡ true
  pub blocks : (i : ℕ) → i < lines → length (memo_at s.gateway i).block ≡ block_limit
  pub texts : length s.memory.unfinished ≡ unfinished_size
  pub frames : length s.memory.frames ≡ frames_size
  pub entries : List Entry
  pub held : Held todays_shares s.gateway.ledger s.memory.journal entries

-- events come on lines 0 to 7; a taking may name any line
abbrev pub May : GatewayItem → Type 0
May (event i k) = i < lines
May (taking i b) = Unit {0}

-- A line's record in plain numbers, as a host keeps it.
-- Assumes nothing.
use Rattle.std.specs.Prelude.{ℕ, zero, suc, ◌+◌, Bool, false, cond, not, ◌&&◌, List, set, leb, ltb, eqb, None, Option, Some}
use Rattle.memory.specs.Sizes.{message_limit}
use Rattle.memory.specs.Tests.{is}
use Rattle.characters.specs.Control.{lf, stx}
use Rattle.digits.specs.Number.{most_number}
use Rattle.settings.specs.Settings.{results_length}
use Rattle.settings.specs.declared.Patient.TheVariants.{Ten, Thirteen}
use Rattle.settings.specs.declared.Dialogue.{Dialogue}
use Rattle.settings.specs.declared.Dialogue.TheVariants.{Frames, Blocks}
use Rattle.settings.specs.declared.Settings.{Settings}
use Rattle.line.specs.Line.{most_collected, most_seconds, most_tries}
use Rattle.line.specs.declared.Line.{Line}
use Rattle.line.specs.declared.State.{State}
use Rattle.line.specs.declared.State.TheVariants.{Neutral, Waiting, Inside, Out}
use Rattle.line.specs.declared.Sending.{Sending}
use Rattle.line.specs.declared.Sending.TheVariants.{Asking, Pausing, Offering}
use Rattle.looking.specs.declared.Kind.{Kind}
use Rattle.looking.specs.declared.Kind.TheVariants.{Byte, Seconds}
use Rattle.layout.specs.Layout.{start, collected_at, joined_at, seconds_at, next_at, last_at, refusing_at, tries_at, place_at, speaks_at, reply_at, since_at, kept_at, first_at, number_at, frames, blocks_of10, blocks_of13}

-- a state: 0 neutral, 1 waiting, 2 inside; and of a sending 3 asking, 4 pausing, 5 offering [H2]
abbrev pub waiting : ℕ
waiting = 1

abbrev pub inside : ℕ
inside = 2

abbrev pub asking : ℕ
asking = 3

abbrev pub pausing : ℕ
pausing = 4

abbrev pub offering : ℕ
offering = 5

-- the state that three numbers stand for: its own, the tries and the place
abbrev pub sending_of : ℕ → ℕ → ℕ → Sending
sending_of n tries place = cond (eqb n asking) (Asking tries) (cond (eqb n pausing) (Pausing tries) (Offering tries place))

abbrev pub state_of : ℕ → ℕ → ℕ → State
state_of n tries place = cond (eqb n 0) Neutral (cond (eqb n waiting) Waiting (cond (eqb n inside) Inside (Out (sending_of n tries place))))

-- and the way back: the state's own number, its tries, its place, 0 where it has none
abbrev pub state_number : State → ℕ
state_number Neutral = 0
state_number Waiting = waiting
state_number Inside = inside
state_number (Out (Asking n)) = asking
state_number (Out (Pausing n)) = pausing
state_number (Out (Offering n at)) = offering

abbrev pub tries_number : State → ℕ
tries_number Neutral = 0
tries_number Waiting = 0
tries_number Inside = 0
tries_number (Out (Asking n)) = n
tries_number (Out (Pausing n)) = n
tries_number (Out (Offering n at)) = n

abbrev pub place_number : State → ℕ
place_number Neutral = 0
place_number Waiting = 0
place_number Inside = 0
place_number (Out (Asking n)) = 0
place_number (Out (Pausing n)) = 0
place_number (Out (Offering n at)) = at

-- the tries and the place that a state may have: what it has no use for is 0, so that numbers and record tell each other [H3]
abbrev pub sending_fits : ℕ → ℕ → ℕ → Bool
sending_fits n tries place =
    cond (leb n inside) (eqb tries 0 && eqb place 0)
    (cond (leb n pausing) (ltb tries most_tries && eqb place 0)
    (leb tries most_tries && leb place message_limit))

-- the last accepted number: 0 for none, else one more than it [H2]
abbrev pub last_of : ℕ → Option ℕ
last_of zero = None
last_of (suc n) = Some n

abbrev pub last_number : Option ℕ → ℕ
last_number None = 0
last_number (Some n) = n + 1

abbrev pub flag : Bool → ℕ
flag b = cond b 1 0

-- what a line speaks: 0 frames, 10 or 13 a strip reader's blocks, by the length of its patient numbers [H2, B1]
abbrev pub dialogue_of : ℕ → Dialogue
dialogue_of n = cond (eqb n frames) Frames (cond (eqb n blocks_of10) (Blocks Ten) (Blocks Thirteen))

abbrev pub settings_of : ℕ → Settings
settings_of n = record { dialogue = dialogue_of n }

-- the record that a line's numbers stand for, without the eighth, which is a serial, what is kept of a reader, and the spare ones [H1]
abbrev pub line_of : List ℕ → ℕ → Line
line_of ns i = record {
  state = state_of (first_at ns i) (number_at ns i tries_at) (number_at ns i place_at);
  collected = number_at ns i collected_at;
  joined = number_at ns i joined_at;
  seconds = number_at ns i seconds_at;
  next = number_at ns i next_at;
  last = last_of (number_at ns i last_at);
  refusing = eqb (number_at ns i refusing_at) 1;
  settings = settings_of (number_at ns i speaks_at);
}

-- the counts and the numbers of frames that every line has, collected bytes aside
abbrev pub counts_fit : List ℕ → ℕ → Bool
counts_fit ns i =
    leb (number_at ns i joined_at) message_limit && (leb (number_at ns i seconds_at) most_seconds
    && (leb (number_at ns i next_at) most_number && leb (number_at ns i last_at) (most_number + 1)))

-- what is kept of a reader: one of two replies or none, and two that are yes or no [B12]
abbrev pub most_reply : ℕ
most_reply = 2

abbrev pub reader_fits : List ℕ → ℕ → Bool
reader_fits ns i = leb (number_at ns i reply_at) most_reply && (leb (number_at ns i since_at) 1 && leb (number_at ns i kept_at) 1)

-- a reader's line has fewer bytes collected than its longest block has
abbrev pub block_fits : List ℕ → ℕ → ℕ → Bool
block_fits ns i longest = ltb (number_at ns i collected_at) longest && reader_fits ns i

-- it speaks what a line can speak, and what it has collected is within the limits of that [A42, B12]
unfoldable pub speech_fits : List ℕ → ℕ → Bool
speech_fits ns i =
    cond (eqb (number_at ns i speaks_at) frames) (leb (number_at ns i collected_at) (most_collected (line_of ns i)))
    (cond (eqb (number_at ns i speaks_at) blocks_of10) (block_fits ns i (results_length Ten))
    (eqb (number_at ns i speaks_at) blocks_of13 && block_fits ns i (results_length Thirteen)))

-- they are those of a record within its limits; the eighth, a serial, may be any, and so may the spare ones, and a block's [A42, H3]
unfoldable pub within_numbers : List ℕ → ℕ → Bool
within_numbers ns i =
    leb (first_at ns i) offering && (sending_fits (first_at ns i) (number_at ns i tries_at) (number_at ns i place_at)
    && (counts_fit ns i && (leb (number_at ns i refusing_at) 1 && speech_fits ns i)))

-- inside a frame that this byte does not end, on a line of frames that does not refuse: it is only collected
unfoldable pub only_collects : List ℕ → ℕ → ℕ → Bool
only_collects ns i b =
    eqb (first_at ns i) inside && (not (is lf b) && (eqb (number_at ns i speaks_at) frames
    && (eqb (number_at ns i refusing_at) 0 && not (eqb (number_at ns i collected_at) (most_collected (line_of ns i))))))

-- and nothing else stands against it: its line's numbers are within their limits
abbrev pub quick : List ℕ → ℕ → ℕ → Bool
quick ns i b = only_collects ns i b && within_numbers ns i

-- then it has one more collected
abbrev pub one_more : List ℕ → ℕ → List ℕ
one_more ns i = set ns (start i + collected_at) (number_at ns i collected_at + 1)

-- STX between frames only begins one; and the numbers then
abbrev pub begins : List ℕ → ℕ → Kind → Bool
begins ns i (Byte b) = is stx b && eqb (first_at ns i) waiting
begins ns i (Seconds s) = false

abbrev pub inside_at : List ℕ → ℕ → List ℕ
inside_at ns i = set ns (start i) inside

-- the numbers with another record of line i
unfoldable pub with_line : List ℕ → ℕ → Line → List ℕ
with_line ns i l =
    set (set (set (set (set (set (set (set (set ns
    (start i) (state_number l.state))
    (start i + collected_at) l.collected)
    (start i + joined_at) l.joined)
    (start i + seconds_at) l.seconds)
    (start i + next_at) l.next)
    (start i + last_at) (last_number l.last))
    (start i + refusing_at) (flag l.refusing))
    (start i + tries_at) (tries_number l.state))
    (start i + place_at) (place_number l.state)

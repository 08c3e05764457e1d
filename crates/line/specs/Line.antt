-- The record of a line: fresh, within its limits, and what each kind of event leaves of it.
-- Assumes nothing.
use Rattle.std.specs.Prelude.{ℕ, ◌-◌, Bool, true, false, ◌&&◌, leb, ltb, None, Option, Some}
use Rattle.memory.specs.Sizes.{message_limit, frame_limit}
use Rattle.digits.specs.Number.{most_number, next_number}
use Rattle.settings.specs.Settings.{results_length, standard_settings, speaks_frames, by_dialogue}
use Rattle.settings.specs.declared.Settings.{Settings}
use Rattle.settings.specs.declared.Patient.{Patient}
use Rattle.line.specs.declared.Line.{Line}
use Rattle.line.specs.declared.Sending.{Sending}
use Rattle.line.specs.declared.Sending.TheVariants.{Asking, Pausing, Offering}
use Rattle.line.specs.declared.State.{State}
use Rattle.line.specs.declared.State.TheVariants.{Neutral, Waiting, Inside, Out}

-- a frame is judged at the last byte of its line's limit at the latest, and STX is not collected; today every line has the same limit [E7]
unfoldable pub most_collected : Line → ℕ
most_collected l = frame_limit - 2

-- at 30 seconds the line turns neutral [E9]
abbrev pub most_seconds : ℕ
most_seconds = 29

-- neutral, counts 0, next number 1, no last number, not refusing; and it speaks what is set [E2, E3, B1]
abbrev pub started_line : Settings → Line
started_line t = record { state = Neutral; collected = 0; joined = 0; seconds = 0; next = 1; last = None; refusing = false; settings = t }

-- and frames, unless it is said otherwise [E2, E3]
abbrev pub fresh_line : Line
fresh_line = started_line standard_settings

-- where a transfer is opened, and where it is over: what the old record had of a transfer is gone [L5]
abbrev pub opened_line : Line → Line
opened_line l = record { state = Waiting; collected = 0; joined = 0; seconds = 0; next = 1; last = None; refusing = false; settings = l.settings }

-- and where it is over [L6]
abbrev pub closed_line : Line → Line
closed_line l = record { state = Neutral; collected = 0; joined = 0; seconds = 0; next = 1; last = None; refusing = false; settings = l.settings }

-- a last number, if there is one, is the number of a frame [E11]
abbrev pub last_within : Option ℕ → Bool
last_within None = true
last_within (Some n) = leb n most_number

-- a frame is sent, and our ENQ refused, at most so often [S7, S9]
abbrev pub most_tries : ℕ
most_tries = 6

-- fewer refusals than six, six sends at most, and a place within the longest text: whether the text has a byte there is not asked [S3]
abbrev pub sending_within : Sending → Bool
sending_within (Asking n) = ltb n most_tries
sending_within (Pausing n) = ltb n most_tries
sending_within (Offering n at) = leb n most_tries && leb at message_limit

abbrev pub state_within : State → Bool
state_within Neutral = true
state_within Waiting = true
state_within Inside = true
state_within (Out s) = sending_within s

-- at most 4,000 joined, 29 seconds, 7 for a number, and what a sending has [E11, S3]
abbrev pub counts_within : Line → Bool
counts_within l = leb l.joined message_limit && (leb l.seconds most_seconds && (leb l.next most_number && (last_within l.last && state_within l.state)))

-- a line of frames: besides, at most 245 collected [E11, A42, S3]
unfoldable pub within_limits : Line → Bool
within_limits l = leb l.collected (most_collected l) && (counts_within l && speaks_frames l.settings)

-- a strip reader's line: besides, fewer bytes collected than its longest block has [A42]
unfoldable pub block_within : Patient → Line → Bool
block_within p l = ltb l.collected (results_length p) && counts_within l

-- a line, by what it speaks [A42, B1]
abbrev pub record_within : Line → Bool
record_within l = by_dialogue l.settings.dialogue (within_limits l) (λ p. block_within p l)

-- STX: inside, and nothing else [L4]
abbrev pub begun_line : Line → Line
begun_line l =
    record { state = Inside; collected = l.collected; joined = l.joined; seconds = l.seconds; next = l.next; last = l.last; refusing = l.refusing; settings = l.settings }

-- another count of collected bytes [L2]
abbrev pub collected_line : Line → ℕ → Line
collected_line l count =
    record { state = l.state; collected = count; joined = l.joined; seconds = l.seconds; next = l.next; last = l.last; refusing = l.refusing; settings = l.settings }

-- another count of seconds [L3]
abbrev pub counted_line : Line → ℕ → Line
counted_line l count =
    record { state = l.state; collected = l.collected; joined = l.joined; seconds = count; next = l.next; last = l.last; refusing = l.refusing; settings = l.settings }

-- a judged frame: collected and second counts 0, and the line waits [L7]
abbrev pub waiting_line : Line → Line
waiting_line l =
    record { state = Waiting; collected = 0; joined = l.joined; seconds = 0; next = l.next; last = l.last; refusing = l.refusing; settings = l.settings }

-- and the number advances, with so many bytes joined [F9, L8]
abbrev pub accepted_line : Line → ℕ → Line
accepted_line l count =
    record { state = Waiting; collected = 0; joined = count; seconds = 0; next = next_number l.next; last = Some l.next; refusing = l.refusing; settings = l.settings }

-- or nothing is joined any more, and the line refuses [F10, L10]
abbrev pub refusing_line : Line → Line
refusing_line l =
    record { state = Waiting; collected = 0; joined = 0; seconds = 0; next = l.next; last = l.last; refusing = true; settings = l.settings }

-- the start of a sending of so many bytes: our ENQ awaits its reply, and nothing of an old record is left [S1, L13]
abbrev pub asked_line : Line → ℕ → Line
asked_line l count = record { state = Out (Asking 0); collected = 0; joined = count; seconds = 0; next = 1; last = None; refusing = false; settings = l.settings }

-- a sending goes on, with the number of its frame: its seconds begin anew, and none is carried on [S10, L14]
abbrev pub gone_line : Line → Sending → ℕ → Line
gone_line l s number =
    record { state = Out s; collected = l.collected; joined = l.joined; seconds = 0; next = number; last = l.last; refusing = l.refusing; settings = l.settings }

-- The outcome of one call: what the library's contracts allow, what an ignored event is, and what a call leaves of the other lines.
-- Assumes nothing.
use Rattle.std.specs.Prelude.{ℕ, ◌<◌, ◌≡◌, Bool, true, false, not, ◌||◌, List, get_or}
use Rattle.memory.specs.Sizes.{lines}
use Rattle.memory.specs.Tests.{is}
use Rattle.characters.specs.Control.{stx, enq, eot}
use Rattle.settings.specs.Settings.{by_dialogue}
use Rattle.line.specs.declared.Line.{Line}
use Rattle.line.specs.declared.State.{State as LineState}
use Rattle.line.specs.declared.State.TheVariants.{Neutral, Waiting, Inside, Out}
use Rattle.line.specs.declared.Sending.TheVariants.{Asking, Pausing, Offering}
use Rattle.looking.specs.Views.{frames_of, texts_of}
use Rattle.looking.specs.declared.Kind.{Kind}
use Rattle.looking.specs.declared.Kind.TheVariants.{Byte, Seconds}
use Rattle.receiving.specs.Steps.{Memory}
use Rattle.serial.specs.Serial.{event, taking}
use Rattle.promises.specs.Machine.{GatewayItem, happens, starts, on_line}
use Rattle.layout.specs.Layout.{fields, serial_at, number_at}
use Rattle.strips.specs.Sights.{is_inside}
use Rattle.keeping.specs.Keeping.{kept_block}
use Rattle.calls.specs.Calls.{HostState, Calling}
use Rattle.orders.specs.Calls.{Sent}
use Rattle.reader.specs.Takings.{Taken}
use Rattle.ngachodui_laws.specs.HostRuns.{started_host, HostResponse, lent_of, sent_by}

-- a start that is answered leaves every line as it is set, and the journal empty [B12]
pub record StartedAs (speaks : List ℕ) (m : Memory) (r : ℕ) (ns us : List ℕ) : Type 0 where
  pub answer : r ≡ 0
  pub state : ◌≡◌ {A = HostState} (record { numbers = ns; counts = us; memory = m }) (started_host speaks m)

-- what the contract of `ngachodui_take` allows: the lines' numbers are lent to it to read, and neither the unfinished texts nor the frames are lent at all
pub record AllowsTaking (s : HostState) (i : ℕ) (b : List ℕ) (r : HostResponse) (t : HostState) : Type 0 where
  pub taken : Taken s.numbers i (lent_of s b) r.answered (lent_of t r.buffer)
  pub numbers : t.numbers ≡ s.numbers
  pub unfinished : t.memory.unfinished ≡ s.memory.unfinished
  pub frames : t.memory.frames ≡ s.memory.frames

-- what the contract of `ngachodui_send` allows: counts are not lent to it, and journal and frames to read
pub record AllowsStart (s : HostState) (i : ℕ) (text : List ℕ) (r : HostResponse) (t : HostState) : Type 0 where
  pub sent : Sent s.numbers i text s.memory r.answered t.numbers t.memory.unfinished
  pub counts : t.counts ≡ s.counts
  pub journal : t.memory.journal ≡ s.memory.journal
  pub frames : t.memory.frames ≡ s.memory.frames
  pub out : r.buffer ≡ sent_by t i r.answered

-- from the state s, the contract of the call allows the response r and the state t; behind an event, `ngachodui_byte` or `ngachodui_seconds`, and a start
-- the host sends what it is told to
abbrev pub Allows : HostState → GatewayItem → HostResponse → HostState → Type 0
Allows s (event i (happens k)) r t = Calling s (on_line i k) r.answered t × (r.buffer ≡ sent_by t i r.answered)
Allows s (event i (starts text)) r t = AllowsStart s i text r t
Allows s (taking i b) r t = AllowsTaking s i b r t

-- what a line of frames in this state ignores: all but ENQ where no transfer is open; between frames all bytes but STX, EOT and ENQ; inside a frame nothing; while it
-- sends, bytes in the pause
abbrev pub ignored_in_frames : LineState → Kind → Bool
ignored_in_frames Neutral (Byte b) = not (is enq b)
ignored_in_frames Neutral (Seconds n) = true
ignored_in_frames Waiting (Byte b) = not (is stx b || (is eot b || is enq b))
ignored_in_frames Waiting (Seconds n) = false
ignored_in_frames Inside (Byte b) = false
ignored_in_frames Inside (Seconds n) = false
ignored_in_frames (Out (Asking n)) (Byte b) = false
ignored_in_frames (Out (Asking n)) (Seconds m) = false
ignored_in_frames (Out (Pausing n)) (Byte b) = true
ignored_in_frames (Out (Pausing n)) (Seconds m) = false
ignored_in_frames (Out (Offering n at)) (Byte b) = false
ignored_in_frames (Out (Offering n at)) (Seconds m) = false

-- and a reader's line: all but STX between blocks, and seconds always [B6]
abbrev pub ignored_in_blocks : LineState → Kind → Bool
ignored_in_blocks state (Byte b) = not (is_inside state || is stx b)
ignored_in_blocks state (Seconds n) = true

abbrev pub ignores : Line → Kind → Bool
ignores l k = by_dialogue l.settings.dialogue (ignored_in_frames l.state k) (λ p. ignored_in_blocks l.state k)

-- the line that a call names
abbrev pub line_in : GatewayItem → ℕ
line_in (event i k) = i
line_in (taking i b) = i

-- line l has what it had: its sixteen numbers, its last stored block, its used count, and its parts of the unfinished texts and of the frames
pub record LineKept (l : ℕ) (s t : HostState) : Type 0 where
  pub numbers : (k : ℕ) → k < fields → number_at t.numbers l k ≡ number_at s.numbers l k
  pub block : kept_block t.numbers l ≡ kept_block s.numbers l
  pub used : get_or t.counts l 0 ≡ get_or s.counts l 0
  pub text : texts_of l t.memory.unfinished ≡ texts_of l s.memory.unfinished
  pub frame : frames_of l t.memory.frames ≡ frames_of l s.memory.frames

-- nothing was stored and nothing taken: counts, serials and the journal are as they were
pub record StoreKept (s t : HostState) : Type 0 where
  pub counts : t.counts ≡ s.counts
  pub serials : (l : ℕ) → l < lines → number_at t.numbers l serial_at ≡ number_at s.numbers l serial_at
  pub journal : t.memory.journal ≡ s.memory.journal

-- A piece of a trace replayed: its lines one after the other.
-- Assumes nothing.
use Rattle.std.specs.Prelude.{ℕ, zero, suc, ◌+◌, ◌%◌, ◌^◌, List, length}
use Rattle.replaying.specs.Desk.{Desk}
use Rattle.replaying.specs.Turns.{Turn, Went, Stopped, turn_of}
use Rattle.replaying.specs.declared.Progress.{Progress}
use Rattle.replaying.specs.declared.Stop.{Stop}
use Rattle.replaying.specs.declared.Stop.TheVariants.{Input}

pub record AfterRun : Type 0 where
  pub progress : Progress
  pub out : List ℕ
  pub desk : Desk

abbrev pub run_leaves : Progress → List ℕ → Desk → AfterRun
run_leaves r out d = record { progress = r; out = out; desk = d }

-- the event behind this one: the count is a number of 64 bits
abbrev pub following : ℕ → ℕ
following n = (n + 1) % 2 ^ 64

abbrev pub left : Stop → ℕ → ℕ → ℕ → List ℕ → Desk → AfterRun
left s events at put out d = run_leaves (record { events = events; read = at; written = put; stop = s }) out d

-- a turn that went on, or stopped
abbrev pub by_turn : Turn → (ℕ → ℕ → AfterRun) → (Stop → AfterRun) → AfterRun
by_turn (Went behind end) go stop = go behind end
by_turn (Stopped s) go stop = stop s

-- at most `most` lines, until one stops the run
unfoldable pub run_of : ℕ → List ℕ → ℕ → ℕ → ℕ → List ℕ → Desk → AfterRun
run_of zero input events at put out d = left Input events at put out d
run_of (suc most) input events at put out d =
    let t = turn_of (following events) input at out put d in
    by_turn t.turn (λ behind end. run_of most input (following events) behind end t.out t.desk) (λ s. left s events at put t.out t.desk)

-- a piece has no more lines than bytes
abbrev pub piece_of : ℕ → List ℕ → List ℕ → Desk → AfterRun
piece_of events input out d = run_of (length input) input events 0 0 out d

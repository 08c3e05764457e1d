-- What is kept of a trace between two calls, at each stage.
-- Assumes nothing.
use Rattle.std.specs.Prelude.{ℕ, Bool, true, false}
use Rattle.streaming.specs.declared.Kept.{Kept}
use Rattle.streaming.specs.declared.Stage.{Stage}
use Rattle.streaming.specs.declared.Stage.TheVariants.{Begins, Runs, Wants, Total, Fault, Over}

-- what waits is to be run, more is to be read, nothing is left to do
abbrev pub is_running : Stage → Bool
is_running Begins = false
is_running Runs = true
is_running Wants = false
is_running Total = false
is_running Fault = false
is_running Over = false

abbrev pub wants : Stage → Bool
wants Begins = false
wants Runs = false
wants Wants = true
wants Total = false
wants Fault = false
wants Over = false

abbrev pub is_over : Stage → Bool
is_over Begins = false
is_over Runs = false
is_over Wants = false
is_over Total = false
is_over Fault = false
is_over Over = true

-- n bytes are read, and nothing is run
abbrev pub begun : ℕ → Kept
begun n = record { from = 0; end = n; events = 0; ended = false; written = 0; stage = Begins }

-- nothing is left to do
abbrev pub nothing : Kept
nothing = record { from = 0; end = 0; events = 0; ended = true; written = 0; stage = Over }

-- the line that closes the listing comes next
abbrev pub closes : ℕ → ℕ → Stage → Kept
closes events written stage = record { from = 0; end = 0; events = events; ended = true; written = written; stage = stage }

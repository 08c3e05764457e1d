-- Whether a turn runs what waits, and what it does where it does not.
-- Assumes nothing.
use Rattle.std.specs.Prelude.{ℕ, Bool, cond, ◌&&◌, List, nat_le}
use Rattle.streaming.specs.declared.Kept.{Kept}
use Rattle.streaming.specs.declared.Stage.{Stage}
use Rattle.streaming.specs.Stages.{is_running, nothing}
use Rattle.streaming.specs.Said.{Said, said_at}

-- what waits is to be run, and lies in an input of so many bytes
unfoldable pub is_ready : Kept → ℕ → Bool
is_ready k most = is_running k.stage && (nat_le k.from k.end && nat_le k.end most)

-- a line that is no row; where what waits was to be run, nothing is left to do
abbrev pub instead_at : Stage → Kept → List ℕ → Said
instead_at stage k out = cond (is_running stage) (record { kept = nothing; out = out }) (said_at stage k out)

unfoldable pub instead_of : Kept → List ℕ → Said
instead_of k out = instead_at k.stage k out

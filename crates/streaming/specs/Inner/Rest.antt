-- What is left of the input behind a run.
-- Assumes nothing.
use Rattle.std.specs.Prelude.{ℕ, cond, List}
use Rattle.memory.specs.Moves.{closed_up}
use Rattle.streaming.specs.declared.Kept.{Kept}
use Rattle.streaming.specs.Stages.{wants}

-- where more is wanted, the bytes from `at` to `end` move to the start
abbrev pub moved_for : Kept → ℕ → ℕ → List ℕ → List ℕ
moved_for k at end input = cond (wants k.stage) (closed_up input 0 at end) input

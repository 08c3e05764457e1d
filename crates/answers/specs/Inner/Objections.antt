-- The answers that object to a complete text.
-- Assumes nothing.
use Rattle.std.specs.Prelude.{ℕ, Bool, ◌||◌, eqb}
use Rattle.answers.specs.Paper.{is_faulty}

-- an answer that a complete text gets because it is no message: a fault, or 30
abbrev pub is_objection : ℕ → Bool
is_objection n = is_faulty n || eqb n 30

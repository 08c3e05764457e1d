-- The sizes of the three memories that an event is lent. [A41]
-- Assumes nothing.
use Rattle.std.specs.Prelude.{ℕ, Bool, ◌&&◌, List, length, eqb}
use Rattle.memory.specs.Sizes.{journal_size, unfinished_size, frames_size}

abbrev pub right_lengths : ℕ → ℕ → ℕ → Bool
right_lengths journal unfinished frames = eqb journal journal_size && (eqb unfinished unfinished_size && eqb frames frames_size)

abbrev pub right_sizes : List ℕ → List ℕ → List ℕ → Bool
right_sizes journal unfinished frames = right_lengths (length journal) (length unfinished) (length frames)

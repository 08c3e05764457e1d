-- What joining two texts at the start of a place says.
-- Assumes nothing.
use Rattle.std.specs.Prelude.{ℕ, ◌+◌, ◌≡◌, Bool, true, List, ◌++◌, length, take, leb}

pub record Joined (z old new : List ℕ) (r : Bool) (z' : List ℕ) : Type 0 where
  pub fits : r ≡ leb (length old + length new) (length z)
  pub long : length z' ≡ length z
  pub both : r ≡ true → take (length old + length new) z' ≡ old ++ new

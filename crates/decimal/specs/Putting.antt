-- Writing a number's digits into lent memory.
-- Assumes nothing.
use Rattle.std.specs.Prelude.{ℕ, ◌+◌, ◌≡◌, cond, List, length}
use Rattle.memory.specs.Moves.{fits_at, copied}
use Rattle.decimal.specs.Decimal.{decimal_of}

-- where the digits end: at `at` itself where there is no room for them
unfoldable pub end_of : ℕ → List ℕ → ℕ → ℕ
end_of n out at = cond (fits_at out at (decimal_of n)) (at + length (decimal_of n)) at

-- what writing them says: where they end, and the memory after it, which is unchanged where there is no room
pub record DecimalPut (n : ℕ) (out : List ℕ) (at r : ℕ) (out' : List ℕ) : Type 0 where
  pub answer : r ≡ end_of n out at
  pub after : out' ≡ copied out at (decimal_of n)

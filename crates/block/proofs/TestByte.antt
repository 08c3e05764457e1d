-- Laws of the test byte: how the bytes that it counts are joined, and a block tested by its two halves.
-- Assumes nothing.
use mathlib.Core.Path.{◌≡◌, refl}
use mathlib.Core.Bool.{false}
use mathlib.Core.List.{List, [], ◌∷◌}
use Prim.Native.Nat.{ℕ, ◌+◌, ◌-◌, ◌≤◌}
use native.Mathlib.Omega.{arith}
use borrow.Author.Tests.{eq-eqb, ne_eqb}
use lib.Bits.{bit_xor}
use lib.Dec.{eqb}
use lib.ListN.{length, get_or, take}
use Rattle.std.specs.Prelude.{fold}
use Rattle.block.specs.Judged.{control_length, test_from, test_byte, high_test, low_test, is_tested}

-- the bytes are joined one by one
pub test_folds : (s : List ℕ) (t : ℕ) → test_from t s ≡ fold (λ t b. bit_xor t b) t s
unfolding test_from
test_folds [] t = refl
test_folds (b ∷ s) t = test_folds s (bit_xor t b)

-- the two tests of a block, one behind the other: the high half is wrong, or is right and the low one decides
module _ (bs : List ℕ) where
  abbrev at : ℕ
  at = length bs - 3

  pub high_wrong : {t high : ℕ} → t ≡ test_byte (take at bs) → high ≡ high_test t → (get_or bs at 0 ≡ high → ⊥) → false ≡ is_tested bs
  unfolding is_tested
  high_wrong {high = high} p q n = rw (← p, ← q, ne_eqb (get_or bs at 0) high n)

  pub low_tells : {t high low : ℕ} → control_length ≤ length bs → t ≡ test_byte (take at bs) → high ≡ high_test t → get_or bs at 0 ≡ high → low ≡ low_test t
      → eqb (get_or bs (at + 1) 0) low ≡ is_tested bs
  unfolding is_tested
  low_tells {high = high} h p q e r =
      let k : at + 1 ≡ length bs - 2 = omega arith in
      rw (← p, ← q, eq-eqb (get_or bs at 0) high e, k, r)

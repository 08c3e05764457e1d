-- The nine ranges into which digits and letters divide the bytes, and which of them may be delimiters.
-- Assumes nothing.
use mathlib.Core.Path.{◌≡◌, refl}
use mathlib.Core.Bool.{Bool, true, false, not, ◌&&◌, ◌||◌}
use Prim.Native.Nat.{ℕ, ◌<◌, ◌≤◌}
use native.Mathlib.Omega.{arith}
use Rattle.memory.specs.Tests.{between}
use Rattle.memory.proofs.Tests.{between_yes, between_low, between_high}
use Rattle.kinds.specs.Delimiters.{is_delimiter}

module _ (b : ℕ) where
  -- what the rule's four ranges say decides
  by_tests : {visible digit capital small : Bool} → between 0x21 0x7e b ≡ visible → between 0x30 0x39 b ≡ digit → between 0x41 0x5a b ≡ capital → between 0x61 0x7a b ≡ small
      → visible && not (digit || capital || small) ≡ is_delimiter b
  unfolding is_delimiter
  by_tests v d c s = rw (v, d, c, s)

  visible : 0x21 ≤ b → b < 0x7f → between 0x21 0x7e b ≡ true
  visible lo hi = between_yes 0x21 0x7e b lo (omega arith)

  digit : 0x30 ≤ b → b < 0x3a → between 0x30 0x39 b ≡ true
  digit lo hi = between_yes 0x30 0x39 b lo (omega arith)

  capital : 0x41 ≤ b → b < 0x5b → between 0x41 0x5a b ≡ true
  capital lo hi = between_yes 0x41 0x5a b lo (omega arith)

  small : 0x61 ≤ b → b < 0x7b → between 0x61 0x7a b ≡ true
  small lo hi = between_yes 0x61 0x7a b lo (omega arith)

  pub below : b < 0x21 → false ≡ is_delimiter b
  below hi = by_tests (between_low 0x21 0x7e b hi) refl refl refl

  pub to_2f : 0x21 ≤ b → b < 0x30 → true ≡ is_delimiter b
  to_2f lo hi = by_tests (visible lo (omega arith)) (between_low 0x30 0x39 b hi) (between_low 0x41 0x5a b (omega arith)) (between_low 0x61 0x7a b (omega arith))

  pub digits : 0x30 ≤ b → b < 0x3a → false ≡ is_delimiter b
  digits lo hi = by_tests (visible (omega arith) (omega arith)) (digit lo hi) refl refl

  pub to_40 : 0x3a ≤ b → b < 0x41 → true ≡ is_delimiter b
  to_40 lo hi = by_tests (visible (omega arith) (omega arith)) (between_high 0x30 0x39 b lo) (between_low 0x41 0x5a b hi) (between_low 0x61 0x7a b (omega arith))

  pub capitals : 0x41 ≤ b → b < 0x5b → false ≡ is_delimiter b
  capitals lo hi = by_tests (visible (omega arith) (omega arith)) (between_high 0x30 0x39 b (omega arith)) (capital lo hi) refl

  pub to_60 : 0x5b ≤ b → b < 0x61 → true ≡ is_delimiter b
  to_60 lo hi = by_tests (visible (omega arith) (omega arith)) (between_high 0x30 0x39 b (omega arith)) (between_high 0x41 0x5a b lo) (between_low 0x61 0x7a b hi)

  pub small_letters : 0x61 ≤ b → b < 0x7b → false ≡ is_delimiter b
  small_letters lo hi = by_tests (visible (omega arith) (omega arith)) (between_high 0x30 0x39 b (omega arith)) (between_high 0x41 0x5a b (omega arith)) (small lo hi)

  pub to_7e : 0x7b ≤ b → b < 0x7f → true ≡ is_delimiter b
  to_7e lo hi = by_tests (visible (omega arith) hi) (between_high 0x30 0x39 b (omega arith)) (between_high 0x41 0x5a b (omega arith)) (between_high 0x61 0x7a b lo)

  pub above : 0x7f ≤ b → false ≡ is_delimiter b
  above lo = by_tests (between_high 0x21 0x7e b lo) refl refl refl

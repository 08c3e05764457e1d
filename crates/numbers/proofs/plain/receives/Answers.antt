-- `numbers::plain::receives` meets its contract: no bit is set in the three together where all are 0.
-- Assumes nothing.
use mathlib.Core.Path.{◌≡◌, refl, ap, ◌∙◌}
use mathlib.Core.Bool.{Bool, true, false, ◌&&◌}
use Prim.Native.Nat.{ℕ}
use native.Mathlib.Omega.{arith}
use borrow.Author.Tests.{ne_eqb, eqb-true, eqb-false}
use lib.Dec.{eqb}
use lib.Bits.{bit_or, or_zero_l, or_add_and, and_le_r}
use Rattle.numbers.proofs.plain.receives.Goals as goal

-- no bit is set in two together where both are 0, and only there
both_zero : (a b : ℕ) → eqb (bit_or a b) 0 ≡ eqb a 0 && eqb b 0
both_zero a b = by (eqb a 0) refl
  where
    by : (x : Bool) → eqb a 0 ≡ x → eqb (bit_or a b) 0 ≡ x && eqb b 0
    by true p = ap (λ (n : ℕ). eqb (bit_or n b) 0) (eqb-true a 0 p) ∙ ap (λ (n : ℕ). eqb n 0) (or_zero_l b)
    by false p = ne_eqb (bit_or a b) 0 (λ q. eqb-false a 0 p (omega (arith, q, or_add_and a b, and_le_r a b)))

one_by_one : (x y z w : Bool) → ((x && y) && z) && w ≡ x && (y && (z && w))
one_by_one true true z w = refl
one_by_one true false z w = refl
one_by_one false y z w = refl

pub returns : goal.returns
returns c =
    let a = c.args in
    let two = both_zero a.tries a.place in
    let three = both_zero (bit_or a.tries a.place) a.speaks ∙ ap (λ (x : Bool). x && eqb a.speaks 0) two in
    both_zero (bit_or (bit_or a.tries a.place) a.speaks) a.refusing ∙ ap (λ (x : Bool). x && eqb a.refusing 0) three
    ∙ one_by_one (eqb a.tries 0) (eqb a.place 0) (eqb a.speaks 0) (eqb a.refusing 0)

-- What it tells that a field or a byte names a type.
-- Assumes nothing.
use Rattle.std.specs.Prelude.{None, Option, Some}
use mathlib.Core.Path.{◌≡◌, refl, ap, sym}
use mathlib.Core.Bool.{Bool, true, false, cond}
use mathlib.Core.List.{List}
use Prim.Native.Nat.{ℕ}
use native.Mathlib.Omega.{arith}
use lib.Dec.{eqb}
use lib.ListN.{length, get_or}
use borrow.Author.Tests.{eqb-true}
use Rattle.memory.specs.Tests.{is}
use Rattle.kinds.specs.Kinds.{letter_of, kind_of, type_of, is_terminator}
use Rattle.kinds.specs.declared.Kind.{Kind}
use Rattle.kinds.specs.declared.Kind.TheVariants.{Header, Patient, Order, Result, Query, Terminator, Comment, Manufacturer}

-- a field that names a type is one byte, which names it
pub letter : (f : List ℕ) (k : Kind) → type_of f ≡ Some k → (length f ≡ 1) × (kind_of (get_or f 0 0) ≡ Some k)
unfolding type_of
letter f k h = by_length (eqb (length f) 1) refl h
  where
    by_length : (b : Bool) → eqb (length f) 1 ≡ b → cond b (kind_of (get_or f 0 0)) None ≡ Some k → (length f ≡ 1) × (kind_of (get_or f 0 0) ≡ Some k)
    by_length true e g = (eqb-true (length f) 1 e, g)
    by_length false e g = let z : ◌≡◌ {A = ℕ} 0 1 = cc in absurd (omega arith)

-- the byte L names the type L, and no other byte does
same_kind : (a b : Kind) → ◌≡◌ {A = (Option Kind)} (Some a) (Some b) → b ≡ a
same_kind a b e = cc

pub l_names : (b : ℕ) (k : Kind) → kind_of b ≡ Some k → is (letter_of Terminator) b ≡ is_terminator k
unfolding kind_of
l_names b k h = by_l (is (letter_of Terminator) b) refl
  where
    other : (a₁ a₂ a₃ a₄ a₅ a₆ a₇ : Bool)
        → cond a₁ (Some Header)
        (cond a₂ (Some Patient)
        (cond a₃ (Some Order)
        (cond a₄ (Some Result) (cond a₅ (Some Query) (cond a₆ (Some Comment) (cond a₇ (Some Manufacturer) None))))))
        ≡ Some k
        → is_terminator k ≡ false
    other true a₂ a₃ a₄ a₅ a₆ a₇ e = ap is_terminator (same_kind Header k e)
    other false true a₃ a₄ a₅ a₆ a₇ e = ap is_terminator (same_kind Patient k e)
    other false false true a₄ a₅ a₆ a₇ e = ap is_terminator (same_kind Order k e)
    other false false false true a₅ a₆ a₇ e = ap is_terminator (same_kind Result k e)
    other false false false false true a₆ a₇ e = ap is_terminator (same_kind Query k e)
    other false false false false false true a₇ e = ap is_terminator (same_kind Comment k e)
    other false false false false false false true e = ap is_terminator (same_kind Manufacturer k e)
    other false false false false false false false e = let z : ◌≡◌ {A = ℕ} 0 1 = cc in absurd (omega arith)

    by_l : (a : Bool) → is (letter_of Terminator) b ≡ a → a ≡ is_terminator k
    by_l true e =
        let same : b ≡ letter_of Terminator = eqb-true b (letter_of Terminator) e in
        sym (ap is_terminator (same_kind Terminator k (rw same at h)))
    by_l false e =
        sym (other (is (letter_of Header) b) (is (letter_of Patient) b) (is (letter_of Order) b) (is (letter_of Result) b) (is (letter_of Query) b)
        (is (letter_of Comment) b) (is (letter_of Manufacturer) b) (rw e at h))

-- Laws of `upd`, of `stretch`, and of how often a line stands in an order.
-- Assumes nothing.
use mathlib.Core.Path.{◌≡◌, refl, sym, ap, subst}
use mathlib.Core.Logic.{◌≢◌}
use mathlib.Core.Bool.{Bool, true, false, cond}
use mathlib.Core.List.{List, [], ◌∷◌, ◌++◌}
use Prim.Native.Nat.{ℕ, suc}
use native.Mathlib.Omega.{arith}
use lib.Dec.{eqb}
use borrow.Author.Tests.{eqb-true, eqb-false, eq-eqb, ne_eqb}
use Rattle.serial.specs.Serial.{event, upd, times, stretch}

-- what holds of a at i, and elsewhere of f, holds of `upd f i a` everywhere
pub upd_all : {X : Type 0} (Q : ℕ → X → Type 0) (f : ℕ → X) (i : ℕ) (a : X) → Q i a → ((l : ℕ) → l ≢ i → Q l (f l)) → (l : ℕ) → Q l (upd f i a l)
unfolding upd
upd_all Q f i a own others l = go (eqb l i) refl
  where
    go : (b : Bool) → eqb l i ≡ b → Q l (cond b a (f l))
    go true e = subst (λ (m : ℕ). Q m a) (sym (eqb-true l i e)) own
    go false e = others l (eqb-false l i e)

pub upd_own : {X : Type 0} (f : ℕ → X) (i : ℕ) (a : X) → upd f i a i ≡ a
unfolding upd
upd_own f i a = rw (eq-eqb i i refl)

pub upd_other : {X : Type 0} (f : ℕ → X) (i : ℕ) (a : X) (l : ℕ) → l ≢ i → upd f i a l ≡ f l
unfolding upd
upd_other f i a l n = rw (ne_eqb l i n)

pub stretch_append : {K N A : Type 0} (i : ℕ) (xs ys : List (K × A)) → stretch {N = N} i (xs ++ ys) ≡ stretch i xs ++ stretch i ys
stretch_append i [] ys = refl
stretch_append i (x ∷ xs) ys = ap (λ zs. (event i x.0, x.1) ∷ zs) (stretch_append i xs ys)

pub times_own : (i : ℕ) (is : List ℕ) → times i (i ∷ is) ≡ suc (times i is)
times_own i is = rw (eq-eqb i i refl) (omega arith)

pub times_other : (i l : ℕ) (is : List ℕ) → i ≢ l → times l (i ∷ is) ≡ times l is
times_other i l is n = rw (ne_eqb i l n) (omega arith)

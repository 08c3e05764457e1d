-- What a test finds in lists that are joined, in a stretch and in the rests of the lines.
-- Assumes nothing.
use mathlib.Core.Path.{◌≡◌, refl, sym, ◌∙◌, ap}
use mathlib.Core.Logic.{◌≢◌}
use mathlib.Core.Bool.{Bool, true, false, cond}
use mathlib.Core.List.{List, [], ◌∷◌, ◌++◌, append-nil}
use Prim.Native.Nat.{ℕ, ◌+◌}
use native.Mathlib.Omega.{arith}
use native.Mathlib.Decide.{ℕ_discrete}
use borrow.Author.Tests.{eq-eqb, ne_eqb}
use Rattle.serial.specs.Serial.{Item, event, upd, count, times, stretch, rests}
use Rattle.serial.specs.Kept.{only, is_of}
use Rattle.serial.proofs.Updates.{upd_own, upd_other, times_own, times_other}

-- a wrong case: what makes 0 equal to 1 proves anything
pub clash : {A : Type 0} → ◌≡◌ {A = ℕ} 0 1 → A
clash z = absurd (omega arith)

pub only_append : {X : Type 0} (p : X → Bool) (xs ys : List X) → only p (xs ++ ys) ≡ only p xs ++ only p ys
only_append p [] ys = refl
only_append p (x ∷ xs) ys = go (p x) (only_append p xs ys)
  where
    go : (b : Bool) → only p (xs ++ ys) ≡ only p xs ++ only p ys
        → cond b (x ∷ only p (xs ++ ys)) (only p (xs ++ ys)) ≡ cond b (x ∷ only p xs) (only p xs) ++ only p ys
    go true e = ap (λ zs. x ∷ zs) e
    go false e = e

pub count_append : {X : Type 0} (p : X → Bool) (xs ys : List X) → count p (xs ++ ys) ≡ count p xs + count p ys
count_append p [] ys = omega arith
count_append p (x ∷ xs) ys = omega (arith, count_append p xs ys)

-- a line's own events, among events of lines
module _ {K N A : Type 0} (i : ℕ) where
  abbrev pub mine : Item K N × A → Bool
  mine x = is_of i x.0

  pub own_stretch : (xs : List (K × A)) → only mine (stretch i xs) ≡ stretch i xs
  own_stretch [] = refl
  own_stretch (x ∷ xs) = rw (eq-eqb i i refl) (ap (λ zs. (event i x.0, x.1) ∷ zs) (own_stretch xs))

  pub other_stretch : (l : ℕ) (xs : List (K × A)) → l ≢ i → only mine (stretch l xs) ≡ []
  other_stretch l [] n = refl
  other_stretch l (x ∷ xs) n = rw (ne_eqb l i n) (other_stretch l xs n)

  module _ (pending : ℕ → List (K × A)) where
    pub rests_none : (is : List ℕ) → times i is ≡ 0 → only mine (rests pending is) ≡ []
    rests_none [] h = refl
    rests_none (l ∷ is) h = elim (ℕ_discrete l i) [
      | yes q ↦ absurd (let g : times i (i ∷ is) ≡ 0 = rw q at h in omega (arith, times_own i is))
      | no n ↦ rw (only_append, other_stretch l (pending l) n) (rests_none is (sym (times_other l i is n) ∙ h))
    ]

    pub rests_own : (is : List ℕ) → times i is ≡ 1 → only mine (rests pending is) ≡ stretch i (pending i)
    rests_own [] h = absurd (omega arith)
    rests_own (l ∷ is) h = elim (ℕ_discrete l i) [
      | yes q ↦
          let g : times i (i ∷ is) ≡ 1 = rw q at h in
          rw (only_append, q, own_stretch, rests_none is (omega (arith, times_own i is)), append-nil)
      | no n ↦ rw (only_append, other_stretch l (pending l) n) (rests_own is (sym (times_other l i is n) ∙ h))
    ]

-- the rests, where one line's rest is another
module _ {K N A : Type 0} (i : ℕ) (pending : ℕ → List (K × A)) (ys : List (K × A)) where
  pub rests_without : (is : List ℕ) → times i is ≡ 0 → rests {N = N} (upd pending i ys) is ≡ rests pending is
  rests_without [] h = refl
  rests_without (l ∷ is) h = elim (ℕ_discrete l i) [
    | yes q ↦ absurd (let g : times i (i ∷ is) ≡ 0 = rw q at h in omega (arith, times_own i is))
    | no n ↦ rw (upd_other pending i ys l n, rests_without is (sym (times_other l i is n) ∙ h))
  ]

  pub rests_count : (p : Item K N × A → Bool) (is : List ℕ) → times i is ≡ 1
      → count p (rests (upd pending i ys) is) + count p (stretch i (pending i)) ≡ count p (rests pending is) + count p (stretch i ys)
  rests_count p [] h = absurd (omega arith)
  rests_count p (l ∷ is) h = elim (ℕ_discrete l i) [
    | yes q ↦
        let g : times i (i ∷ is) ≡ 1 = rw q at h in
        rw q (simp (upd_own, rests_without is (omega (arith, times_own i is)), count_append) (omega arith))
    | no n ↦ simp (upd_other pending i ys l n, count_append) (omega (arith, rests_count p is (sym (times_other l i is n) ∙ h)))
  ]

-- In a row of records in which each may follow, the nearest record that stands less deep is the owner that the page names.
-- Assumes nothing.
use Rattle.std.specs.Prelude.{None, Option, Some}
use mathlib.Core.Path.{◌≡◌, refl, sym, ap, ◌∙◌}
use mathlib.Core.Bool.{true, cond}
use mathlib.Core.List.{List, [], ◌∷◌}
use Prim.Native.Nat.{ℕ, suc, ◌+◌, ◌≤◌}
use native.Mathlib.Omega.{arith}
use native.Mathlib.Numerals.{add-one}
use native.Mathlib.Nat.{add-zero}
use lib.Dec.{eqb, ltb, lit≤}
use lib.ListN.{length, get_or, drop}
use lib.Seq.{get_or-drop, drop-drop}
use borrow.Author.Tests.{le-ltb, ne_eqb}
use Rattle.kinds.specs.Kinds.{kind_of, may_follow}
use Rattle.kinds.specs.declared.Kind.{Kind}
use Rattle.kinds.specs.declared.Kind.TheVariants.{Header, Patient, Order, Result, Query, Terminator, Comment, Manufacturer}
use Rattle.faults.proofs.Chain.{other_of}
use Rattle.owner.specs.Inner.Depths.{depth_by, depth_of}
use Rattle.owner.specs.Inner.Nearest.{nearest, nearest_owner, nearest_from}
use Rattle.owner.specs.Owners.{Seen, owner_by, seen_by, owners_by}

-- each of these types may follow, t being the last other type before them
abbrev pub Follow : Kind → List ℕ → Type 0
Follow t [] = Unit
Follow t (b ∷ bs) = (k : Kind) × (kind_of b ≡ Some k) × (may_follow t k ≡ true) × Follow (other_of t k) bs

-- where anything may follow, P and L may; where R may, O may
follows_patient : (t k : Kind) → may_follow t k ≡ true → may_follow t Patient ≡ true
unfolding may_follow
follows_patient Header k h = refl
follows_patient Patient k h = refl
follows_patient Order k h = refl
follows_patient Result k h = refl
follows_patient Query k h = refl
follows_patient Terminator k h = h
follows_patient Comment k h = h
follows_patient Manufacturer k h = h

follows_end : (t k : Kind) → may_follow t k ≡ true → may_follow t Terminator ≡ true
unfolding may_follow
follows_end Header k h = refl
follows_end Patient k h = refl
follows_end Order k h = refl
follows_end Result k h = refl
follows_end Query k h = refl
follows_end Terminator k h = h
follows_end Comment k h = h
follows_end Manufacturer k h = h

follows_order : (t : Kind) → may_follow t Result ≡ true → may_follow t Order ≡ true
unfolding may_follow
follows_order Header h = refl
follows_order Patient h = refl
follows_order Order h = refl
follows_order Result h = refl
follows_order Query h = h
follows_order Terminator h = h
follows_order Comment h = h
follows_order Manufacturer h = h

pub never_head : (t : Kind) → may_follow t Header ≡ true → ◌≡◌ {A = ℕ} 0 1
unfolding may_follow
never_head Header h = cc
never_head Patient h = cc
never_head Order h = cc
never_head Result h = cc
never_head Query h = cc
never_head Terminator h = cc
never_head Comment h = cc
never_head Manufacturer h = cc

by_most : (x : Option Kind) → depth_by x ≤ 5
by_most (Some Header) = lit≤ tt
by_most (Some Patient) = lit≤ tt
by_most (Some Order) = lit≤ tt
by_most (Some Result) = lit≤ tt
by_most (Some Query) = lit≤ tt
by_most (Some Terminator) = lit≤ tt
by_most (Some Comment) = lit≤ tt
by_most (Some Manufacturer) = lit≤ tt
by_most None = lit≤ tt

-- an O right behind the P with number n + 1 belongs to it
patient_owns : (n : ℕ) → suc n ≡ cond (eqb (n + 1) 0) 1 (n + 1)
patient_owns n = rw (ne_eqb (n + 1) 0 (λ e. omega arith)) (sym (add-one n))

-- the two owners agree for each type that may follow
abbrev Agree : List ℕ → ℕ → Kind → Seen → Type 0
Agree ts n t s = (j : Kind) → may_follow t j ≡ true → nearest ts n (depth_by (Some j)) ≡ owner_by s (Some j)

module _ (ts : List ℕ) (n : ℕ) (t : Kind) (s : Seen) (a : Agree ts n t s) where
  abbrev at : Kind → Kind → ℕ
  at k j = cond (ltb (depth_by (Some k)) (depth_by (Some j))) (suc n) (nearest ts n (depth_by (Some j)))

  agree : (k j : Kind) → may_follow t k ≡ true → may_follow (other_of t k) j ≡ true → at k j ≡ owner_by (seen_by s (Some k) (n + 1)) (Some j)
  unfolding may_follow
  agree Header j h g = let z : ◌≡◌ {A = ℕ} 0 1 = never_head t h in absurd (omega arith)
  agree Patient Header h g = cc
  agree Patient Patient h g = a Patient (follows_patient t Patient h)
  agree Patient Order h g = patient_owns n
  agree Patient Result h g = cc
  agree Patient Query h g = a Patient (follows_patient t Patient h)
  agree Patient Terminator h g = a Terminator (follows_end t Patient h)
  agree Patient Comment h g = sym (add-one n)
  agree Patient Manufacturer h g = sym (add-one n)
  agree Order Header h g = cc
  agree Order Patient h g = a Patient (follows_patient t Order h)
  agree Order Order h g = a Order h
  agree Order Result h g = sym (add-one n)
  agree Order Query h g = a Patient (follows_patient t Order h)
  agree Order Terminator h g = a Terminator (follows_end t Order h)
  agree Order Comment h g = sym (add-one n)
  agree Order Manufacturer h g = sym (add-one n)
  agree Result Header h g = cc
  agree Result Patient h g = a Patient (follows_patient t Result h)
  agree Result Order h g = a Order (follows_order t h)
  agree Result Result h g = a Result h
  agree Result Query h g = a Patient (follows_patient t Result h)
  agree Result Terminator h g = a Terminator (follows_end t Result h)
  agree Result Comment h g = sym (add-one n)
  agree Result Manufacturer h g = sym (add-one n)
  agree Query Header h g = cc
  agree Query Patient h g = a Patient (follows_patient t Query h)
  agree Query Order h g = cc
  agree Query Result h g = cc
  agree Query Query h g = a Patient (follows_patient t Query h)
  agree Query Terminator h g = a Terminator (follows_end t Query h)
  agree Query Comment h g = sym (add-one n)
  agree Query Manufacturer h g = sym (add-one n)
  agree Terminator j h g = cc
  agree Comment j h g = rw (le-ltb 5 (depth_by (Some j)) (by_most (Some j))) (a j g)
  agree Manufacturer j h g = rw (le-ltb 5 (depth_by (Some j)) (by_most (Some j))) (a j g)

near_more : (ts : List ℕ) (n l : ℕ) (k : Kind) → kind_of (get_or ts n 0) ≡ Some k → nearest ts (suc n) l ≡ cond (ltb (depth_by (Some k)) l) (suc n) (nearest ts n l)
unfolding depth_of
near_more ts n l k e = rw e

-- from record n on, with the types that are left
pub owners_agree : (ts : List ℕ) (n : ℕ) (t : Kind) (s : Seen) (bs : List ℕ) → drop n ts ≡ bs → Agree ts n t s → Follow t bs
    → nearest_from ts n (length bs) ≡ owners_by s n bs
unfolding nearest_owner depth_of
owners_agree ts n t s [] e a h = refl
owners_agree ts n t s (b ∷ bs) e a (k, is, may, rest) =
    let first : get_or ts n 0 ≡ b = sym (get_or-drop n ts 0 0 ∙ ap (λ (i : ℕ). get_or ts i 0) (add-zero n)) ∙ ap (λ (l : List ℕ). get_or l 0 0) e in
    let tail : drop (suc n) ts ≡ bs = sym (drop-drop 1 n ts ∙ ap (λ (i : ℕ). drop i ts) (add-one n)) ∙ ap (λ (l : List ℕ). drop 1 l) e in
    let here : kind_of (get_or ts n 0) ≡ Some k = ap kind_of first ∙ is in
    let go : nearest_from ts (suc n) (length bs) ≡ owners_by (seen_by s (Some k) (n + 1)) (suc n) bs =
    owners_agree ts (suc n) (other_of t k) (seen_by s (Some k) (n + 1)) bs tail (λ j g. near_more ts n (depth_by (Some j)) k here ∙ agree ts n t s a k j may g) rest in
    let own : nearest ts n (depth_by (kind_of (get_or ts n 0))) ≡ owner_by s (kind_of b) = rw (here, is) (a k may) in
    let on : nearest_from ts (suc n) (length bs) ≡ owners_by (seen_by s (kind_of b) (n + 1)) (n + 1) bs = rw is (go ∙ ap (λ (i : ℕ). owners_by (seen_by s (Some k) (n + 1)) i bs) (sym (add-one n))) in
    λ i. own i ∷ on i

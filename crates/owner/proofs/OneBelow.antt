-- In a message each record stands one level below its owner, but for an O where no P came, which stands under H; H and L have no owner.
-- Assumes nothing.
use Rattle.std.specs.Prelude.{Option, Some}
use mathlib.Core.Path.{◌≡◌, refl, sym, ap, subst, ◌∙◌}
use mathlib.Core.Bool.{Bool, true, false, true≢false, cond}
use mathlib.Core.Logic.{◌⊎◌, inl, inr}
use mathlib.Core.List.{List, [], ◌∷◌}
use Prim.Native.Nat.{ℕ, zero, suc, ◌+◌, ◌-◌, ◌<◌}
use native.Mathlib.Omega.{arith}
use native.Mathlib.Nat.{add-zero}
use borrow.Author.Tests.{eqb-false}
use lib.Dec.{eqb}
use lib.ListN.{length, get_or, drop}
use lib.Seq.{get_or-drop, drop-drop}
use Rattle.characters.specs.Control.{cr}
use Rattle.kinds.specs.Kinds.{letter_of, kind_of, may_follow}
use Rattle.records.specs.Records.{records}
use Rattle.faults.specs.Message.{is_message_by}
use Rattle.kinds.specs.declared.Delimiters.{Delimiters}
use Rattle.kinds.specs.declared.Kind.{Kind}
use Rattle.kinds.specs.declared.Kind.TheVariants.{Header, Patient, Order, Result, Query, Terminator, Comment, Manufacturer}
use Rattle.faults.proofs.Chain.{other_of, Chain, message_chained}
use Rattle.owner.specs.Levels.{level_of, level_by, other_level, levels_from, levels_of, level_at, Below}
use Rattle.owner.specs.Owners.{Seen, types_of, owner_by, seen_by, owners_by, owners_of, unseen}
use Rattle.owner.proofs.Agree.{Follow, never_head}
use Rattle.owner.proofs.Valid.{first_letter, follow_types, header_kind}

-- the levels of the records that were seen: H has 0, the last P 1, the last O 2 where an R may follow, and the last other record that of its type t
record Levels (lv : ℕ → ℕ) (t : Kind) (s : Seen) : Type 0 where
  header : lv 1 ≡ 0
  patient : (s.patient ≡ 0) ⊎ (lv s.patient ≡ 1)
  order : may_follow t Result ≡ true → lv s.order ≡ 2
  other : lv s.other ≡ level_of 0 t

-- a record that may follow stands one below its owner
under : (lv : ℕ → ℕ) (t k : Kind) (s : Seen) → may_follow t k ≡ true → Levels lv t s → Below lv (Some k) (level_of (level_of 0 t) k) (owner_by s (Some k))
under lv t Header s h v = refl
under lv t Patient s h v = ap suc (sym v.header)
under lv t Order s h v = by_patient (eqb s.patient 0) refl v.patient
  where
    by_patient : (b : Bool) → eqb s.patient 0 ≡ b → (s.patient ≡ 0) ⊎ (lv s.patient ≡ 1) → (2 ≡ suc (lv (cond b 1 s.patient))) ⊎ (cond b 1 s.patient ≡ 1)
    by_patient true q p = inr refl
    by_patient false q (inl z) = absurd (eqb-false s.patient 0 q z)
    by_patient false q (inr z) = inl (ap suc (sym z))
under lv t Result s h v = ap suc (sym (v.order h))
under lv t Query s h v = ap suc (sym v.header)
under lv t Terminator s h v = refl
under lv t Comment s h v = ap suc (sym v.other)
under lv t Manufacturer s h v = ap suc (sym v.other)

-- and so does the next, once this one, with number n, is seen
module _ (lv : ℕ → ℕ) (t : Kind) (s : Seen) (n : ℕ) (v : Levels lv t s) where
  seen : (k : Kind) → may_follow t k ≡ true → lv n ≡ level_of (level_of 0 t) k → Levels lv (other_of t k) (seen_by s (Some k) n)
  unfolding may_follow
  seen Header h e = let z : ◌≡◌ {A = ℕ} 0 1 = never_head t h in absurd (omega arith)
  seen Patient h e = record { header = v.header; patient = inr e; order = λ q. absurd (true≢false (sym q)); other = e }
  seen Order h e = record { header = v.header; patient = v.patient; order = λ q. e; other = e }
  seen Result h e = record { header = v.header; patient = v.patient; order = λ q. v.order h; other = e }
  seen Query h e = record { header = v.header; patient = v.patient; order = λ q. absurd (true≢false (sym q)); other = e }
  seen Terminator h e = record { header = v.header; patient = v.patient; order = λ q. absurd (true≢false (sym q)); other = e }
  seen Comment h e = v
  seen Manufacturer h e = v

level_on : (t k : Kind) → may_follow t k ≡ true → other_level (level_of 0 t) (Some k) ≡ level_of 0 (other_of t k)
level_on t Header h = let z : ◌≡◌ {A = ℕ} 0 1 = never_head t h in absurd (omega arith)
level_on t Patient h = refl
level_on t Order h = refl
level_on t Result h = refl
level_on t Query h = refl
level_on t Terminator h = refl
level_on t Comment h = refl
level_on t Manufacturer h = refl

-- from record n on, with the types that are left
module _ (ls : List ℕ) where
  abbrev lv : ℕ → ℕ
  lv number = get_or ls (number - 1) 0

  below_from : (n : ℕ) (t : Kind) (s : Seen) (bs : List ℕ) → drop n ls ≡ levels_from (level_of 0 t) bs → Levels lv t s → Follow t bs → (k : ℕ) → k < length bs
      → Below lv (kind_of (get_or bs k 0)) (get_or (levels_from (level_of 0 t) bs) k 0) (get_or (owners_by s n bs) k 0)
  below_from n t s [] e v f k h = absurd (omega arith)
  below_from n t s (b ∷ bs) e v (j, is, may, rest) zero h =
      subst (λ (x : Option Kind). Below lv x (level_by (level_of 0 t) x) (owner_by s x)) (sym is) (under lv t j s may v)
  below_from n t s (b ∷ bs) e v (j, is, may, rest) (suc k) h =
      let first : get_or ls n 0 ≡ level_by (level_of 0 t) (kind_of b) = sym (get_or-drop n ls 0 0 ∙ ap (λ (i : ℕ). get_or ls i 0) (add-zero n)) ∙ ap (λ (l : List ℕ). get_or l 0 0) e in
      let tail : drop (n + 1) ls ≡ levels_from (other_level (level_of 0 t) (kind_of b)) bs = sym (drop-drop 1 n ls) ∙ ap (λ (l : List ℕ). drop 1 l) e in
      let on : other_level (level_of 0 t) (kind_of b) ≡ level_of 0 (other_of t j) = ap (other_level (level_of 0 t)) is ∙ level_on t j may in
      let number : (n + 1) - 1 ≡ n = omega arith in
      let level : lv (n + 1) ≡ level_of (level_of 0 t) j = ap (λ (i : ℕ). get_or ls i 0) number ∙ first ∙ ap (level_by (level_of 0 t)) is in
      let then = below_from (n + 1) (other_of t j) (seen_by s (Some j) (n + 1)) bs (tail ∙ ap (λ (l : ℕ). levels_from l bs) on) (seen lv t s (n + 1) v j may level) rest k (omega arith) in
      subst (λ (l : ℕ). Below lv (kind_of (get_or bs k 0)) (get_or (levels_from l bs) k 0) (get_or (owners_by (seen_by s (kind_of b) (n + 1)) (n + 1) bs) k 0)) (sym on)
      (subst (λ (x : Option Kind). Below lv (kind_of (get_or bs k 0)) (get_or (levels_from (level_of 0 (other_of t j)) bs) k 0) (get_or (owners_by (seen_by s x (n + 1)) (n + 1) bs) k 0)) (sym is) then)

-- H, and the records behind it
module _ (h : ℕ) (bs : List ℕ) (is : kind_of h ≡ Some Header) (f : Follow Header bs) where
  abbrev levels : List ℕ
  levels = 0 ∷ levels_from 0 bs

  abbrev owners : List ℕ
  owners = 0 ∷ owners_by (seen_by unseen (Some Header) 1) 1 bs

  levels_are : levels_of (h ∷ bs) ≡ levels
  unfolding levels_of
  levels_are = ap (λ (x : Option Kind). level_by 0 x ∷ levels_from (other_level 0 x) bs) is

  owners_are : owners_by unseen 0 (h ∷ bs) ≡ owners
  owners_are = ap (λ (x : Option Kind). owner_by unseen x ∷ owners_by (seen_by unseen x 1) 1 bs) is

  start : Levels (lv levels) Header (seen_by unseen (Some Header) 1)
  unfolding may_follow
  start = record { header = refl; patient = inl refl; order = λ q. absurd (true≢false (sym q)); other = refl }

  by_place : (k : ℕ) → k < length (h ∷ bs) → Below (lv levels) (kind_of (get_or (h ∷ bs) k 0)) (get_or levels k 0) (get_or owners k 0)
  by_place zero q = subst (λ (x : Option Kind). Below (lv levels) x 0 0) (sym is) refl
  by_place (suc k) q = below_from levels 1 Header (seen_by unseen (Some Header) 1) bs refl start f k (omega arith)

  all_below : (k : ℕ) → k < length (h ∷ bs) → Below (level_at (h ∷ bs)) (kind_of (get_or (h ∷ bs) k 0)) (get_or (levels_of (h ∷ bs)) k 0) (get_or (owners_by unseen 0 (h ∷ bs)) k 0)
  all_below k q =
      subst (λ (ls : List ℕ). Below (lv ls) (kind_of (get_or (h ∷ bs) k 0)) (get_or ls k 0) (get_or (owners_by unseen 0 (h ∷ bs)) k 0)) (sym levels_are)
      (subst (λ (os : List ℕ). Below (lv levels) (kind_of (get_or (h ∷ bs) k 0)) (get_or levels k 0) (get_or os k 0)) (sym owners_are) (by_place k q))

-- every record of a message
abbrev pub OneBelow : List (List ℕ) → Type 0
OneBelow rs =
    (k : ℕ) → k < length (types_of rs)
    → Below (level_at (types_of rs)) (kind_of (get_or (types_of rs) k 0)) (get_or (levels_of (types_of rs)) k 0) (get_or (owners_of rs) k 0)

chained : (r : List ℕ) (rs : List (List ℕ)) → get_or r 0 0 ≡ letter_of Header → Chain Header rs → OneBelow (r ∷ rs)
unfolding owners_of
chained r rs h c k q = all_below (get_or r 0 cr) (types_of rs) (first_letter r Header (header_kind (get_or r 0 0) h)) (follow_types Header rs c) k q

pub one_below : (d : Delimiters) (m : List ℕ) → is_message_by d m ≡ true → OneBelow (records m)
one_below d m h =
    let c = message_chained d m h in
    subst OneBelow (sym c.all) (chained c.first c.others c.is_header_law c.chain)

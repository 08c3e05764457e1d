-- What the last other record's type and an array of counts hold: the next number of a type, and the counts behind a record.
-- Assumes nothing.
use Rattle.std.specs.Prelude.{Some}
use Rattle.std.proofs.Common.{◌≡◌, ℕ, ◌+◌, true, false, eqb, List, length, get_or, set, sym, refl, arith, ext_get_or, eq-eqb, ne_eqb}
use denote.Enum.Declared.{tag_of}
use Rattle.memory.proofs.Tests.{and_not_right, never_both}
use Rattle.memory.proofs.Table.{values, entry}
use Rattle.kinds.specs.Kinds.{may_follow}
use Rattle.sequence.specs.Numbers.{count_of, counted}
use Rattle.faults.specs.Message.{is_next}
use Rattle.message.specs.Inner.Rest.{counts_of, Tally}
use Rattle.sequence.specs.declared.Counts.{Counts}
use Rattle.kinds.specs.declared.Kind.{Kind}
use Rattle.kinds.specs.declared.Kind.TheVariants.{Header, Patient, Order, Result, Query, Terminator, Comment, Manufacturer}
use Rattle.kinds.specs.contracts.Kind.{the_type}
use Rattle.kinds.proofs.Following.{h_first, not_behind_l}

-- an array of eight, spelt out
spelt : (ns : List ℕ) → length ns ≡ 8 → ns ≡ values (λ i. get_or ns i 0) 0 8
spelt ns l = ext_get_or 0 ns (values (λ i. get_or ns i 0) 0 8) l (λ i h. sym (entry (λ i. get_or ns i 0) 0 8 i (omega arith)))

-- where k may follow: the array has its count, L's too
module _ (other : Kind) (ns : List ℕ) (tally : Tally other ns) where
  pub count_tallied : (k : Kind) → may_follow other k ≡ true → count_of (counts_of other ns) k ≡ get_or ns (tag_of the_type k) 0
  count_tallied Header f = never_both (may_follow other Header) f (h_first other)
  count_tallied Patient f = refl
  count_tallied Order f = refl
  count_tallied Result f = refl
  count_tallied Query f = refl
  count_tallied Terminator f = sym (tally.1 (not_behind_l other Terminator f))
  count_tallied Comment f = refl
  count_tallied Manufacturer f = refl

-- a record of type k with number n: it may not follow, its number is not the next, or it may come next
module _ (s : Counts) (k : Kind) (n : ℕ) where
  pub misplaced : may_follow s.other k ≡ false → is_next s (Some k) n ≡ false
  misplaced f = rw f

  pub miscounted : (n ≡ count_of s k + 1 → ⊥) → is_next s (Some k) n ≡ false
  miscounted e = and_not_right (may_follow s.other k) (eqb n (count_of s k + 1)) (ne_eqb n (count_of s k + 1) e)

  pub may_come : may_follow s.other k ≡ true → n ≡ count_of s k + 1 → is_next s (Some k) n ≡ true
  may_come f e = rw (f, eq-eqb n (count_of s k + 1) e)

-- the counts behind a record of type k with number n, as another type and array hold them
abbrev Counting : Kind → List ℕ → Kind → ℕ → Kind → List ℕ → Type 0
Counting other ns k n other₂ ns₂ = (counts_of other₂ ns₂ ≡ counted (counts_of other ns) k n) × Tally other₂ ns₂

-- at a record that is neither C nor M these restart, at P also O and at O also R
module _ (other : Kind) (ns : List ℕ) (n : ℕ) (tally : Tally other ns) (k : Kind) (f : may_follow other k ≡ true) where
  none_ended : get_or ns 5 0 ≡ 0
  none_ended = tally.1 (not_behind_l other k f)

  pub counted_patient : k ≡ Patient → Counting other ns k n k (set (set (set (set ns (tag_of the_type k) n) 2 0) 6 0) 7 0)
  counted_patient e = rw (e, spelt ns tally.0) (refl, (refl, λ u. none_ended))

  pub counted_order : k ≡ Order → Counting other ns k n k (set (set (set (set ns (tag_of the_type k) n) 3 0) 6 0) 7 0)
  counted_order e = rw (e, spelt ns tally.0) (refl, (refl, λ u. none_ended))

  pub counted_other : (k ≡ Comment → ⊥) → (k ≡ Manufacturer → ⊥) → (k ≡ Patient → ⊥) → (k ≡ Order → ⊥)
      → Counting other ns k n k (set (set (set ns (tag_of the_type k) n) 6 0) 7 0)
  counted_other c m p o = by_type k f c m p o
    where
      by_type : (j : Kind) → may_follow other j ≡ true → (j ≡ Comment → ⊥) → (j ≡ Manufacturer → ⊥) → (j ≡ Patient → ⊥) → (j ≡ Order → ⊥)
          → Counting other ns j n j (set (set (set ns (tag_of the_type j) n) 6 0) 7 0)
      by_type Header g c m p o = never_both (may_follow other Header) g (h_first other)
      by_type Patient g c m p o = absurd (p refl)
      by_type Order g c m p o = absurd (o refl)
      by_type Result g c m p o = rw (spelt ns tally.0) (refl, (refl, λ u. none_ended))
      by_type Query g c m p o = rw (spelt ns tally.0) (refl, (refl, λ u. none_ended))
      by_type Terminator g c m p o = rw (spelt ns tally.0) (refl, (refl, λ u. never_both true refl u))
      by_type Comment g c m p o = absurd (c refl)
      by_type Manufacturer g c m p o = absurd (m refl)

-- The journal is whole exactly as rule J9 says: the test of the chain, as facts.
-- Assumes nothing.
use Rattle.std.proofs.lemmas.Option.{same_Some}
use Rattle.std.specs.Prelude.{None, Option, Some}
use Rattle.std.specs.Option.{is_some}
use Rattle.std.proofs.Common.{◌≡◌, ℕ, zero, suc, ◌-◌, ◌<◌, ◌≤◌, Bool, true, false, not, cond, ◌&&◌, eqb, leb, List, [], ◌∷◌, length, get_or, take, sym, refl, ap, ◌∙◌, true≢false, arith, length-take-le, eq-eqb, ne_eqb, eqb-true, le-leb, leb-true}
use native.Mathlib.Decide.{ℕ_discrete}
use borrow.Author.Tests.{lt-leb}
use lib.Pointwise.{pointwise}
use Rattle.memory.specs.Sizes.{lines}
use Rattle.memory.proofs.Tests.{and_left, and_right}
use Rattle.header.specs.Entry.{Entry}
use Rattle.journal.specs.Entries.{entries, sizes, total, before}
use Rattle.journal.specs.Chain.{every, agree, counted, chain}
use Rattle.journal.specs.Inner.Walks.{Summed, Standing, Seen}
use Rattle.journal.specs.declared.chain.Sums.{Sums}
use Rattle.journal.specs.declared.Ledger.{Ledger}
use Rattle.journal.proofs.Chains.{no_some, total_le}
use Rattle.journal.proofs.Inside.{All, all_sound, sizes_length}

-- ---- a test of every number below n

pub every_facts : (n : ℕ) (p : ℕ → Bool) → every n p ≡ true → (l : ℕ) → l < n → p l ≡ true
every_facts zero p e l h = absurd (omega arith)
every_facts (suc n) p e l h = elim (ℕ_discrete l n) [
  | yes q ↦ rw q (and_left (p n) (every n p) e)
  | no q ↦ every_facts n p (and_right (p n) (every n p) e) l (omega arith)
]

pub every_of : (n : ℕ) (p : ℕ → Bool) → ((l : ℕ) → l < n → p l ≡ true) → every n p ≡ true
every_of zero p h = refl
every_of (suc n) p h = rw (h n (omega arith)) (every_of n p (λ l k. h l (omega arith)))

every_same : (n : ℕ) (p q : ℕ → Bool) → ((l : ℕ) → l < n → p l ≡ q l) → every n p ≡ every n q
every_same zero p q h = refl
every_same (suc n) p q h = rw (h n (omega arith)) (ap (λ (b : Bool). q n && b) (every_same n p q (λ l k. h l (omega arith))))

-- the first test, and those behind it
every_front : (n : ℕ) (p : ℕ → Bool) → every (suc n) p ≡ p 0 && every n (λ k. p (suc k))
every_front zero p = refl
every_front (suc n) p = ap (λ (b : Bool). p (suc n) && b) (every_front n p) ∙ swapped (p (suc n)) (p 0) (every n (λ k. p (suc k)))
  where
    swapped : (a b c : Bool) → a && (b && c) ≡ b && (a && c)
    swapped true true c = refl
    swapped true false c = refl
    swapped false true c = refl
    swapped false false c = refl

-- two lists are compared number by number
pub every_pair : (u v : List ℕ) → length u ≡ length v → pointwise eqb u v ≡ every (length u) (λ k. eqb (get_or u k 0) (get_or v k 0))
every_pair [] [] h = refl
every_pair [] (y ∷ v) h = absurd (omega arith)
every_pair (x ∷ u) [] h = absurd (omega arith)
every_pair (x ∷ u) (y ∷ v) h =
    ap (λ (b : Bool). eqb x y && b) (every_pair u v (omega arith)) ∙ sym (every_front (length u) (λ k. eqb (get_or (x ∷ u) k 0) (get_or (y ∷ v) k 0)))

-- the same either way round
swapped_eqb : (a b : ℕ) → eqb a b ≡ eqb b a
swapped_eqb a b = elim (ℕ_discrete a b) [
  | yes q ↦ rw q
  | no n ↦ ne_eqb a b n ∙ sym (ne_eqb b a (λ q. n (sym q)))
]

swapped_pairs : (u v : List ℕ) → pointwise eqb u v ≡ pointwise eqb v u
swapped_pairs [] [] = refl
swapped_pairs [] (y ∷ v) = refl
swapped_pairs (x ∷ u) [] = refl
swapped_pairs (x ∷ u) (y ∷ v) = rw (swapped_eqb x y, swapped_pairs u v)

pub either_way : (u v : List ℕ) {b : Bool} → b ≡ not (pointwise eqb v u) → b ≡ not (pointwise eqb u v)
either_way u v e = e ∙ ap not (swapped_pairs v u)

-- what the code's test of two arrays of all lines says
not_twice : (b p : Bool) → b ≡ not p → not b ≡ p
not_twice b true e = ap not e
not_twice b false e = ap not e

pub all_pairs : (u v : List ℕ) (b : Bool) → length u ≡ lines → length v ≡ lines → b ≡ not (pointwise eqb u v) → not b ≡ every lines (λ k. eqb (get_or u k 0) (get_or v k 0))
all_pairs u v b lu lv e = not_twice b (pointwise eqb u v) e ∙ every_pair u v (lu ∙ sym lv) ∙ ap (λ (n : ℕ). every n (λ k. eqb (get_or u k 0) (get_or v k 0))) lu

-- ---- the journal is whole, and holds the entries es

pub record Whole (d : Ledger) (j : List ℕ) (es : List Entry) : Type 0 where
  pub room : d.in_use ≤ length j
  pub there : entries (take d.in_use j) ≡ Some es
  pub sums : (l : ℕ) → l < lines → get_or d.used l 0 ≡ total l es

pub whole_of : (d : Ledger) (j : List ℕ) (es : List Entry) → Whole d j es → chain d j ≡ Some es
unfolding chain
whole_of d j es w = rw (le-leb _ _ w.room, w.there, every_of lines (λ l. eqb (get_or d.used l 0) (total l es)) (λ l q. eq-eqb _ _ (w.sums l q)))

none_some : {A : Type 0} {B : Type 0} (a : A) → None ≡ Some a → B
none_some a e = absurd (no_some a None refl e)

from_cond : (b : Bool) (es fs : List Entry) → cond b (Some es) None ≡ Some fs → (b ≡ true) × (es ≡ fs)
from_cond true es fs e = (refl, same_Some _ _ e)
from_cond false es fs e = none_some fs e

from_counted : (u : List ℕ) (o : Option (List Entry)) (es : List Entry) → counted u o ≡ Some es → (o ≡ Some es) × (agree u es ≡ true)
from_counted u None es e = none_some es e
from_counted u (Some fs) es e =
    let (t, q) = from_cond (agree u fs) fs es e in
    (ap Some q, ap (agree u) (sym q) ∙ t)

from_room : (b : Bool) (o : Option (List Entry)) (es : List Entry) → cond b o None ≡ Some es → (b ≡ true) × (o ≡ Some es)
from_room true o es e = (refl, e)
from_room false o es e = none_some es e

pub whole_facts : (d : Ledger) (j : List ℕ) (es : List Entry) → chain d j ≡ Some es → Whole d j es
unfolding chain
whole_facts d j es e =
    let (b, o) = from_room (leb d.in_use (length j)) (counted d.used (entries (take d.in_use j))) es e in
    let (t, a) = from_counted d.used (entries (take d.in_use j)) es o in
    record { room = leb-true _ _ b; there = t; sums = λ l q. eqb-true _ _ (every_facts lines (λ k. eqb (get_or d.used k 0) (total k es)) a l q) }

-- ---- the same, with the entries found

pub record Kept (d : Ledger) (j : List ℕ) : Type 0 where
  pub es : List Entry
  pub is : chain d j ≡ Some es
  pub whole : Whole d j es
  pub all : All es
  pub in_use : d.in_use ≡ sizes es

pub in_use_is : (d : Ledger) (j : List ℕ) (es : List Entry) → chain d j ≡ Some es → d.in_use ≡ sizes es
in_use_is d j es e =
    let w = whole_facts d j es e in
    sym (sizes_length es (take d.in_use j) w.there ∙ length-take-le d.in_use j w.room)

pub kept_some : (d : Ledger) (j : List ℕ) (es : List Entry) → chain d j ≡ Some es → Kept d j
kept_some d j es e =
    let w = whole_facts d j es e in
    record { es = es; is = e; whole = w; all = all_sound es (take d.in_use j) w.there; in_use = in_use_is d j es e }

kept_at : (d : Ledger) (j : List ℕ) (o : Option (List Entry)) → chain d j ≡ o → is_some o ≡ true → Kept d j
kept_at d j None e t = absurd (true≢false (sym t))
kept_at d j (Some es) e t = kept_some d j es e

pub kept : (d : Ledger) (j : List ℕ) → is_some (chain d j) ≡ true → Kept d j
kept d j t = kept_at d j (chain d j) refl t

pub used_below : (d : Ledger) (j : List ℕ) (l : ℕ) → Kept d j → l < lines → get_or d.used l 0 ≤ d.in_use
used_below d j l k h = omega (arith, k.whole.sums l h, total_le l k.es, k.in_use)

-- ---- what the code's tests say

module _ (d : Ledger) (j : List ℕ) where
  pub beyond : length j < d.in_use → chain d j ≡ None
  unfolding chain
  beyond h = rw (lt-leb _ _ h)

  pub unchained : d.in_use ≤ length j → entries (take d.in_use j) ≡ None → chain d j ≡ None
  unfolding chain
  unchained h e = rw (le-leb _ _ h, e)

  -- the sums that a walk found are those of the ledger, or not
  pub compared : (l : ℕ) (w : Sums) → d.in_use ≤ length j → (s : Summed (take d.in_use j) l w) (b : Bool)
      → b ≡ every lines (λ k. eqb (get_or d.used k 0) (get_or w.sums k 0)) → chain d j ≡ cond b (Some s.es) None
  unfolding chain
  compared l w h s b e =
      rw (le-leb _ _ h, s.there)
      (ap (λ (t : Bool). cond t (Some s.es) None)
      (sym (e ∙ every_same lines (λ k. eqb (get_or d.used k 0) (get_or w.sums k 0)) (λ k. eqb (get_or d.used k 0) (total k s.es)) (λ k q. ap (eqb (get_or d.used k 0)) (s.summed k q)))))

  -- what a look says of the journal
  pub standing_at : (l at : ℕ) → Standing d l j at → (k : Kept d j) → at ≡ sizes (before l k.es)
  standing_at l at s k = s.stands ∙ ap (λ (es : List Entry). sizes (before l es)) (same_Some _ _ (sym s.is ∙ k.is))

  pub seen_broken : (l : ℕ) (r : Option ℕ) → Seen d l j r → is_some r ≡ false → is_some (chain d j) ≡ false
  seen_broken l None s e = ap is_some s
  seen_broken l (Some at) s e = absurd (true≢false e)

  pub seen_whole : (l : ℕ) (r : Option ℕ) → Seen d l j r → is_some r ≡ true → is_some (chain d j) ≡ true
  seen_whole l None s e = absurd (true≢false (sym e))
  seen_whole l (Some at) s e = ap is_some s.is

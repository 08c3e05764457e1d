-- What a whole chain tells of its bytes and of its entries.
-- Assumes nothing.
use Rattle.std.proofs.lemmas.Option.{same_Some}
use Rattle.std.specs.Prelude.{None, Option, Some}
use Rattle.std.proofs.Common.{◌≡◌, ℕ, ◌+◌, ◌≤◌, Bool, true, false, List, [], ◌∷◌, ◌++◌, length, drop, sym, refl, ap, ◌∙◌, arith, length-drop, drop-drop, eq-eqb, ne_eqb}
use Rattle.memory.specs.Sizes.{lines}
use Rattle.header.specs.Entry.{Entry, size, starts, first}
use Rattle.journal.specs.Entries.{sizes, total, behind, entries}
use Rattle.room.specs.Room.{sum_to}
use Rattle.header.proofs.Starts.{starts_facts}
use Rattle.header.proofs.Single.{Sound, sound_first, size_first}
use Rattle.journal.proofs.Chains.{no_some, entries_nil, entries_go, entries_stop}
use Rattle.journal.proofs.Oldest.{cons_inj, nil_cons}
use Rattle.room.proofs.Totals.{sum_swap}

-- ---- the first entry

from_behind : (e f : Entry) (es : List Entry) (o : Option (List Entry)) → behind e o ≡ Some (f ∷ es) → (e ≡ f) × (o ≡ Some es)
from_behind e f es None q = absurd (no_some (f ∷ es) None refl q)
from_behind e f es (Some fs) q = let (a, b) = cons_inj e f fs es (same_Some _ _ q) in (a, ap Some b)

pub record Opens (bs : List ℕ) (e : Entry) (es : List Entry) : Type 0 where
  pub here : starts bs ≡ true
  pub is : first bs ≡ e
  pub more : entries (drop (size e) bs) ≡ Some es
  pub fits : size e ≤ length bs

opens : (b : ℕ) (bs : List ℕ) (e : Entry) (es : List Entry) (t : Bool) → starts (b ∷ bs) ≡ t → entries (b ∷ bs) ≡ Some (e ∷ es) → Opens (b ∷ bs) e es
opens b bs e es true t q =
    let (i, m) = from_behind (first (b ∷ bs)) e es (entries (drop (size (first (b ∷ bs))) (b ∷ bs))) (sym (entries_go (b ∷ bs) t) ∙ q) in
    let s = starts_facts (b ∷ bs) t in
    let k = size_first (b ∷ bs) s in
    record { here = t; is = i; more = rw i at m; fits = rw (← i) (omega (arith, k, s.room)) }
opens b bs e es false t q = absurd (no_some (e ∷ es) (entries (b ∷ bs)) (entries_stop (b ∷ bs) (omega arith) t) q)

pub entries_cons : (bs : List ℕ) (e : Entry) (es : List Entry) → entries bs ≡ Some (e ∷ es) → Opens bs e es
entries_cons [] e es q = absurd (nil_cons e es (same_Some _ _ (sym entries_nil ∙ q)))
entries_cons (b ∷ bs) e es q = opens b bs e es (starts (b ∷ bs)) refl q

behind_nil : (e : Entry) (o : Option (List Entry)) → behind e o ≡ Some [] → ⊥
behind_nil e None q = no_some [] None refl q
behind_nil e (Some es) q = nil_cons e es (sym (same_Some _ _ q))

not_nil : (b : ℕ) (bs : List ℕ) (t : Bool) → starts (b ∷ bs) ≡ t → entries (b ∷ bs) ≡ Some [] → ⊥
not_nil b bs true t q = behind_nil (first (b ∷ bs)) (entries (drop (size (first (b ∷ bs))) (b ∷ bs))) (sym (entries_go (b ∷ bs) t) ∙ q)
not_nil b bs false t q = no_some [] (entries (b ∷ bs)) (entries_stop (b ∷ bs) (omega arith) t) q

pub entries_end : (bs : List ℕ) → entries bs ≡ Some [] → bs ≡ []
entries_end [] q = refl
entries_end (b ∷ bs) q = absurd (not_nil b bs (starts (b ∷ bs)) refl q)

-- ---- all entries

pub sizes_length : (es : List Entry) (bs : List ℕ) → entries bs ≡ Some es → sizes es ≡ length bs
sizes_length [] bs q = rw (entries_end bs q)
sizes_length (e ∷ es) bs q =
    let o = entries_cons bs e es q in
    omega (arith, sizes_length es (drop (size e) bs) o.more, length-drop (size e) bs, o.fits)

-- entries that a chain can hold
abbrev pub All : List Entry → Type 0
All [] = Unit {0}
All (e ∷ es) = Sound e × All es

pub all_sound : (es : List Entry) (bs : List ℕ) → entries bs ≡ Some es → All es
all_sound [] bs q = tt
all_sound (e ∷ es) bs q =
    let o = entries_cons bs e es q in
    (rw o.is at (sound_first bs o.here), all_sound es (drop (size e) bs) o.more)

-- the chain behind its first entries
pub entries_drop : (ds es : List Entry) (bs : List ℕ) → entries bs ≡ Some (ds ++ es) → entries (drop (sizes ds) bs) ≡ Some es
entries_drop [] es bs q = q
entries_drop (d ∷ ds) es bs q =
    let o = entries_cons bs d (ds ++ es) q in
    rw (← (drop-drop (sizes ds) (size d) bs)) (entries_drop ds es (drop (size d) bs) o.more)

-- every entry is one line's
pub sum_totals : (es : List Entry) → All es → sum_to lines (λ l. total l es) ≡ sizes es
sum_totals [] a = refl
sum_totals (e ∷ es) a =
    let s : sum_to lines (λ l. total l (e ∷ es)) + 0 ≡ sum_to lines (λ l. total l es) + size e =
    sum_swap lines (λ l. total l (e ∷ es)) (λ l. total l es) e.line 0 (size e) a.0.line
    (rw (eq-eqb e.line e.line refl) (omega arith)) (λ k h n. rw (ne_eqb e.line k (λ x. n (sym x))) (omega arith)) in
    omega (arith, s, sum_totals es a.1)

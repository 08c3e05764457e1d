-- A line's oldest entry: where it stands, and how a walk finds it.
-- Assumes nothing.
use Rattle.std.proofs.Common.{◌≡◌, ℕ, ◌+◌, ◌≤◌, Bool, true, false, cond, eqb, List, [], ◌∷◌, ◌++◌, sym, refl, ap, ◌∙◌, arith, eq-eqb, eqb-true}
use Rattle.header.specs.Entry.{Entry, size}
use Rattle.journal.specs.Entries.{total, before, from}
use Rattle.header.proofs.Single.{size_pos}
use Rattle.journal.proofs.Chains.{total_append}

pub cons_inj : (e f : Entry) (es fs : List Entry) → e ∷ es ≡ f ∷ fs → (e ≡ f) × (es ≡ fs)
cons_inj e f es fs q = (cc, cc)

pub nil_cons : (e : Entry) (es : List Entry) → [] ≡ e ∷ es → ⊥
nil_cons e es q = let z : ◌≡◌ {A = ℕ} 0 1 = cc in omega arith

joined : (b : Bool) (e : Entry) (es ds fs : List Entry) → ds ++ fs ≡ es → cond b [] (e ∷ ds) ++ cond b (e ∷ es) fs ≡ e ∷ es
joined true e es ds fs q = refl
joined false e es ds fs q = ap (λ (x : List Entry). e ∷ x) q

pub before_from : (l : ℕ) (es : List Entry) → before l es ++ from l es ≡ es
before_from l [] = refl
before_from l (e ∷ es) = joined (eqb e.line l) e es (before l es) (from l es) (before_from l es)

own_line : (l : ℕ) (d : Entry) (ds gs : List Entry) (e : Entry) (fs : List Entry) (b : Bool) → eqb d.line l ≡ b → (gs ≡ e ∷ fs → e.line ≡ l)
    → cond b (d ∷ ds) gs ≡ e ∷ fs → e.line ≡ l
own_line l d ds gs e fs true t h k = ap (λ (x : Entry). x.line) (sym (cons_inj d e ds fs k).0) ∙ eqb-true _ _ t
own_line l d ds gs e fs false t h k = h k

pub from_line : (l : ℕ) (es : List Entry) (e : Entry) (fs : List Entry) → from l es ≡ e ∷ fs → e.line ≡ l
from_line l [] e fs q = absurd (nil_cons e fs q)
from_line l (d ∷ ds) e fs q = own_line l d ds (from l ds) e fs (eqb d.line l) refl (from_line l ds e fs) q

pub total_oldest : (l : ℕ) (es : List Entry) (e : Entry) (fs : List Entry) → from l es ≡ e ∷ fs → size e ≤ total l es
total_oldest l es e fs q =
    let s : es ≡ before l es ++ e ∷ fs = sym (before_from l es) ∙ ap (λ (x : List Entry). before l es ++ x) q in
    let t : total l es ≡ total l (before l es) + total l (e ∷ fs) = ap (total l) s ∙ total_append l (before l es) (e ∷ fs) in
    let o : total l (e ∷ fs) ≡ size e + total l fs = rw (eq-eqb _ _ (from_line l es e fs q)) in
    omega (arith, t, o)

-- ---- how a walk finds it: while the line's sum is 0, all that is passed stands before the line's oldest, and from then on nothing more does

none_before : (b : Bool) (e : Entry) (ds es : List Entry) (n : ℕ) → (n ≡ 0 → ds ≡ es) → cond b (size e) 0 + n ≡ 0 → cond b [] (e ∷ ds) ≡ e ∷ es
none_before true e ds es n h q = absurd (omega (arith, size_pos e))
none_before false e ds es n h q = ap (λ (x : List Entry). e ∷ x) (h (omega arith))

pub all_before : (l : ℕ) (es : List Entry) → total l es ≡ 0 → before l es ≡ es
all_before l [] q = refl
all_before l (e ∷ es) q = none_before (eqb e.line l) e (before l es) es (total l es) (all_before l es) q

last_before : (b : Bool) (e : Entry) → (cond b (size e) 0 + 0 ≡ 0 → ⊥) → cond b [] (e ∷ []) ≡ []
last_before true e q = refl
last_before false e q = absurd (q refl)

no_more : (b : Bool) (d : Entry) (es ds : List Entry) (m n : ℕ) → ((n ≡ 0 → ⊥) → es ≡ ds) → (cond b m 0 + n ≡ 0 → ⊥) → cond b [] (d ∷ es) ≡ cond b [] (d ∷ ds)
no_more true d es ds m n h q = refl
no_more false d es ds m n h q = ap (λ (x : List Entry). d ∷ x) (h (λ z. q (omega arith)))

pub same_before : (l : ℕ) (ds : List Entry) (e : Entry) → (total l (ds ++ e ∷ []) ≡ 0 → ⊥) → before l (ds ++ e ∷ []) ≡ before l ds
same_before l [] e q = last_before (eqb e.line l) e q
same_before l (d ∷ ds) e q = no_more (eqb d.line l) d _ _ (size d) (total l (ds ++ e ∷ [])) (same_before l ds e) q

-- A text that ends with CR, and the first byte that breaks its first record off.
-- Assumes nothing.
use Rattle.std.proofs.Common.{◌≡◌, ℕ, suc, ◌+◌, ◌-◌, ◌<◌, ◌≤◌, Bool, true, false, cond, not, ◌&&◌, List, [], ◌∷◌, length, get_or, drop, sym, refl, ap, ◌∙◌, arith, length-drop, get_or-drop, eq-eqb, eqb-true}
use native.Mathlib.Decide.{dec_lt}
use Rattle.memory.specs.Tests.{is, find, all}
use Rattle.memory.proofs.Tests.{never_both}
use Rattle.characters.specs.Control.{cr}
use Rattle.characters.specs.Allowed.{allowed, ordinary}
use Rattle.records.specs.Fields.{before}
use Rattle.records.specs.Records.{ends_with_cr}
use Rattle.message.specs.Inner.Rest.{breaks}
use Rattle.records.proofs.Scans.{find_upto}

-- CR breaks a record off; a byte that does not is allowed and no CR
cr_breaks : (b : ℕ) → is cr b ≡ true → breaks b ≡ true
unfolding ordinary
cr_breaks b e = rw e (by_allowed (allowed b))
  where
    by_allowed : (a : Bool) → not (a && false) ≡ true
    by_allowed true = refl
    by_allowed false = refl

pub unbroken : (b : ℕ) → breaks b ≡ false → (allowed b ≡ true) × (is cr b ≡ false)
unfolding ordinary
unbroken b e = by_tests (allowed b) (is cr b) e
  where
    by_tests : (a c : Bool) → not (a && not c) ≡ false → (a ≡ true) × (c ≡ false)
    by_tests true false h = (refl, refl)
    by_tests true true h = never_both true refl h
    by_tests false c h = never_both true refl h

pub ordinary_plain : (b : ℕ) → ordinary b ≡ true → b ≡ cr → ⊥
ordinary_plain b o e = never_both (is cr b) (eq-eqb b cr e) (unbroken b (ap not o)).1

pub broken : (b : ℕ) → breaks b ≡ true → is cr b ≡ false → allowed b ≡ false
unfolding ordinary
broken b e n = by_tests (allowed b) (is cr b) e n
  where
    by_tests : (a c : Bool) → not (a && not c) ≡ true → c ≡ false → a ≡ false
    by_tests true true h k = never_both true refl k
    by_tests true false h k = sym h
    by_tests false c h k = refl

-- a text that ends with CR: it has a byte, its last one breaks off, and a byte that does not is not its last
module _ (s : List ℕ) (ends : ends_with_cr s ≡ true) where
  pub cr_some : 0 < length s
  cr_some = by_list s ends
    where
      by_list : (t : List ℕ) → ends_with_cr t ≡ true → 0 < length t
      by_list [] h = never_both true refl (sym h)
      by_list (x ∷ xs) h = omega arith

  last_cr : (p : ℕ → Bool) → (p cr ≡ true) → find p s < length s
  last_cr p h =
      let same : get_or s (length s - 1) 0 ≡ cr = eqb-true (get_or s (length s - 1) 0) cr ends in
      let le : find p s ≤ length s - 1 = find_upto p s (length s - 1) (ap p same ∙ h) in
      omega (arith, cr_some)

  pub cr_within : find (is cr) s < length s
  cr_within = last_cr (is cr) refl

  pub break_within : find breaks s < length s
  break_within = last_cr breaks (cr_breaks cr refl)

  pub not_last : (i : ℕ) → i < length s → is cr (get_or s i 0) ≡ false → i + 1 < length s
  not_last i h n =
      elim (dec_lt (i + 1) (length s)) [
        | yes lt ↦ lt
        | no ge ↦ let same : i ≡ length s - 1 = omega arith in never_both (ends_with_cr s) ends (rw same at n)
      ]

  pub passes : (i : ℕ) → i < length s → ordinary (get_or s i 0) ≡ true → (breaks (get_or s i 0) ≡ false) × (i + 1 < length s)
  passes i h o = let on : breaks (get_or s i 0) ≡ false = ap not o in (on, not_last i h (unbroken (get_or s i 0) on).1)

  -- and so does the rest of it
  pub ends_behind : (at : ℕ) → at < length s → ends_with_cr (drop at s) ≡ true
  ends_behind at h =
      let k : at + (length (drop at s) - 1) ≡ length s - 1 = simp length-drop (omega arith) in
      ap (is cr) (get_or-drop at s (length (drop at s) - 1) 0) ∙ ap (λ (n : ℕ). is cr (get_or s n 0)) k ∙ ends

-- where CR breaks the first record off, it ends there and has allowed bytes only; where another byte does, that is not allowed
module _ (x : ℕ) (xs : List ℕ) where
  kept : breaks x ≡ false → all allowed (before cr (x ∷ xs)) ≡ all allowed (before cr xs)
  kept h = let (ok, other) = unbroken x h in rw (other, ok)

pub broken_by_cr : (s : List ℕ) → find breaks s < length s → is cr (get_or s (find breaks s) 0) ≡ true
    → (find breaks s ≡ find (is cr) s) × (all allowed (before cr s) ≡ true)
broken_by_cr [] h e = absurd (omega arith)
broken_by_cr (x ∷ xs) h e = by_first (breaks x) refl h e (broken_by_cr xs)
  where
    by_first : (b : Bool) → breaks x ≡ b → cond b 0 (suc (find breaks xs)) < suc (length xs) → is cr (get_or (x ∷ xs) (cond b 0 (suc (find breaks xs))) 0) ≡ true
        → (find breaks xs < length xs → is cr (get_or xs (find breaks xs) 0) ≡ true → (find breaks xs ≡ find (is cr) xs) × (all allowed (before cr xs) ≡ true))
        → (cond b 0 (suc (find breaks xs)) ≡ find (is cr) (x ∷ xs)) × (all allowed (before cr (x ∷ xs)) ≡ true)
    by_first true k h e go = (rw e, rw e)
    by_first false k h e go =
        let (ok, other) = unbroken x k in
        let (same, clean) = go (omega arith) e in
        (rw (other, same), kept x xs k ∙ clean)

pub broken_by_other : (s : List ℕ) → find breaks s < length s → is cr (get_or s (find breaks s) 0) ≡ false → all allowed s ≡ false
broken_by_other [] h e = absurd (omega arith)
broken_by_other (x ∷ xs) h e = by_first (breaks x) refl h e (broken_by_other xs)
  where
    by_first : (b : Bool) → breaks x ≡ b → cond b 0 (suc (find breaks xs)) < suc (length xs) → is cr (get_or (x ∷ xs) (cond b 0 (suc (find breaks xs))) 0) ≡ false
        → (find breaks xs < length xs → is cr (get_or xs (find breaks xs) 0) ≡ false → all allowed xs ≡ false)
        → allowed x && all allowed xs ≡ false
    by_first true k h e go = rw (broken x k e)
    by_first false k h e go = let (ok, other) = unbroken x k in rw ok (go (omega arith) e)

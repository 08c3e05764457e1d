-- The CRs of a text as a loop counts them, and the number of records that they tell.
-- Assumes nothing.
use mathlib.Core.Path.{◌≡◌, refl, ap}
use mathlib.Core.Bool.{Bool, true, false, cond}
use mathlib.Core.List.{List, [], ◌∷◌, ◌++◌}
use Prim.Native.Nat.{ℕ, suc, ◌+◌, ◌-◌, ◌<◌, ◌≤◌}
use native.Mathlib.Omega.{arith}
use native.Mathlib.Numerals.{add-one, unary_clauses}
use lib.ListN.{length, get_or, drop, drop_of_length-le}
use lib.Seq.{drop-cons}
use borrow.Author.Tests.{eq-eqb, ne_eqb}
use Rattle.memory.specs.Tests.{is, count}
use Rattle.characters.specs.Control.{cr}
use Rattle.records.specs.Records.{onto, records, ends_with_cr}
use Rattle.records.proofs.Scans.{records_cons}

-- a count that stands at i: the byte there passes the test or does not, or no byte is left
module _ (p : ℕ → Bool) (s : List ℕ) (i : ℕ) where
  count_here : i < length s → count p (drop i s) ≡ cond (p (get_or s i 0)) (suc (count p (drop (i + 1) s))) (count p (drop (i + 1) s))
  count_here h = rw (add-one, drop-cons s i 0)

  pub count_hit : (n : ℕ) {t : ℕ} → i < length s → p (get_or s i 0) ≡ true → n + count p (drop i s) ≡ t → n + 1 + count p (drop (i + 1) s) ≡ t
  count_hit n h q e = let z = rw q at (count_here h) in omega arith

  pub count_miss : (n : ℕ) {t : ℕ} → i < length s → p (get_or s i 0) ≡ false → n + count p (drop i s) ≡ t → n + count p (drop (i + 1) s) ≡ t
  count_miss n h q e = let z = rw q at (count_here h) in omega arith

  pub count_done : {n t : ℕ} → length s ≤ i → n + count p (drop i s) ≡ t → n ≡ t
  count_done h e = let z = rw (drop_of_length-le s) at e in omega arith

pub count_le : (p : ℕ → Bool) (s : List ℕ) → count p s ≤ length s
count_le p [] = omega arith
count_le p (x ∷ s) = by_first (p x) (count_le p s)
  where
    by_first : (b : Bool) → count p s ≤ length s → cond b (suc (count p s)) (count p s) ≤ suc (length s)
    by_first true h = omega arith
    by_first false h = omega arith

count_append : (p : ℕ → Bool) (s t : List ℕ) → count p (s ++ t) ≡ count p s + count p t
count_append p [] t = omega arith
count_append p (x ∷ s) t = by_first (p x) (count_append p s t)
  where
    by_first : (b : Bool) → count p (s ++ t) ≡ count p s + count p t
        → cond b (suc (count p (s ++ t))) (count p (s ++ t)) ≡ cond b (suc (count p s)) (count p s) + count p t
    by_first true e = omega arith
    by_first false e = omega arith

-- a block of what is left is counted
pub count_block : (p : ℕ → Bool) (n k : ℕ) (block rest : List ℕ) {t : ℕ} {left : List ℕ} → n + count p left ≡ t → left ≡ block ++ rest → k ≡ count p block → n + k + count p rest ≡ t
count_block p n k block rest e f g = let z = rw (f, count_append p block rest) at e in omega (arith, z, g)

-- a byte in front of a text that is not empty adds no record, unless it is a CR
onto_length : (b : ℕ) (rs : List (List ℕ)) → 0 < length rs → length (onto b rs) ≡ length rs
onto_length b [] h = absurd (omega arith)
onto_length b (r ∷ rs) h = refl

last_on : (x y : ℕ) (s : List ℕ) → ends_with_cr (x ∷ y ∷ s) ≡ ends_with_cr (y ∷ s)
last_on x y s = simp unary_clauses

-- each CR ends a record, and bytes behind the last CR are one more
records_count : (x : ℕ) (s : List ℕ) → length (records (x ∷ s)) ≡ count (is cr) (x ∷ s) + cond (ends_with_cr (x ∷ s)) 0 1
records_count x [] = by_first (is cr x)
  where
    by_first : (b : Bool) → length (cond b ([] ∷ []) (onto x [])) ≡ cond b 1 0 + cond b 0 1
    by_first true = refl
    by_first false = refl
records_count x (y ∷ s) = rw (last_on x y s) (by_first (is cr x) (records_count y s) (ap length (records_cons (y ∷ s) (omega arith))))
  where
    by_first : (b : Bool) → length (records (y ∷ s)) ≡ count (is cr) (y ∷ s) + cond (ends_with_cr (y ∷ s)) 0 1 → {k : ℕ} → length (records (y ∷ s)) ≡ suc k
        → length (cond b ([] ∷ records (y ∷ s)) (onto x (records (y ∷ s)))) ≡ cond b (suc (count (is cr) (y ∷ s))) (count (is cr) (y ∷ s)) + cond (ends_with_cr (y ∷ s)) 0 1
    by_first true e f = omega (arith, e)
    by_first false e f = rw (onto_length x (records (y ∷ s)) (omega (arith, f))) e

pub count_none : (s : List ℕ) → length s ≡ 0 → count (is cr) s ≡ length (records s)
count_none [] h = refl
count_none (x ∷ s) h = absurd (omega arith)

pub count_ended : (s : List ℕ) → 0 < length s → get_or s (length s - 1) 0 ≡ cr → count (is cr) s ≡ length (records s)
count_ended [] h e = absurd (omega arith)
count_ended (x ∷ s) h e = let z = rw (eq-eqb (get_or (x ∷ s) (length (x ∷ s) - 1) 0) cr e) at (records_count x s) in omega (arith, z)

pub count_open : (s : List ℕ) → 0 < length s → (get_or s (length s - 1) 0 ≡ cr → ⊥) → count (is cr) s + 1 ≡ length (records s)
count_open [] h n = absurd (omega arith)
count_open (x ∷ s) h n = let z = rw (ne_eqb (get_or (x ∷ s) (length (x ∷ s) - 1) 0) cr n) at (records_count x s) in omega (arith, z)

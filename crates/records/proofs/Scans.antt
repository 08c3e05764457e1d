-- What a scan for a byte tells of records and fields.
-- Assumes nothing.
use mathlib.Core.Path.{◌≡◌, refl, ap, sym}
use mathlib.Core.Bool.{Bool, true, false, cond}
use mathlib.Core.List.{List, [], ◌∷◌}
use Prim.Native.Nat.{ℕ, zero, suc, ◌+◌, ◌-◌, ◌<◌, ◌≤◌}
use native.Mathlib.Omega.{arith}
use native.Mathlib.Decide.{dec_lt}
use native.Mathlib.Numerals.{add-one}
use lib.ListN.{length, get_or, take, drop, length-drop}
use lib.Seq.{take_all, length-take-le, get_or-take}
use Rattle.memory.specs.Tests.{is, find}
use Rattle.memory.proofs.Tests.{find_le, never_both}
use Rattle.characters.specs.Control.{cr}
use Rattle.records.specs.Fields.{before, behind}
use Rattle.records.specs.Records.{onto, records}

-- what a scan finds passes the test, and what stands before that does not
pub find_hit : (p : ℕ → Bool) (s : List ℕ) → find p s < length s → p (get_or s (find p s) 0) ≡ true
find_hit p [] h = absurd (omega arith)
find_hit p (x ∷ xs) h = by_first (p x) refl h (find_hit p xs)
  where
    by_first : (b : Bool) → p x ≡ b → cond b 0 (suc (find p xs)) < suc (length xs) → (find p xs < length xs → p (get_or xs (find p xs) 0) ≡ true)
        → p (get_or (x ∷ xs) (cond b 0 (suc (find p xs))) 0) ≡ true
    by_first true e k go = e
    by_first false e k go = go (omega arith)

pub find_before : (p : ℕ → Bool) (s : List ℕ) (k : ℕ) → k < find p s → p (get_or s k 0) ≡ false
find_before p [] k h = absurd (omega arith)
find_before p (x ∷ xs) k h = by_first (p x) k refl h (find_before p xs)
  where
    by_first : (b : Bool) (k : ℕ) → p x ≡ b → k < cond b 0 (suc (find p xs)) → ((k : ℕ) → k < find p xs → p (get_or xs k 0) ≡ false)
        → p (get_or (x ∷ xs) k 0) ≡ false
    by_first true k e h go = absurd (omega arith)
    by_first false zero e h go = e
    by_first false (suc k) e h go = go k (omega arith)

-- so where one passes, the scan has ended
pub find_upto : (p : ℕ → Bool) (s : List ℕ) (k : ℕ) → p (get_or s k 0) ≡ true → find p s ≤ k
find_upto p s k h =
    elim (dec_lt k (find p s)) [
      | yes lt ↦ never_both (p (get_or s k 0)) h (find_before p s k lt)
      | no ge ↦ omega arith
    ]

-- the part of a text from a place on, as code lends it, is the rest of the text
abbrev pub tail_at : List ℕ → ℕ → List ℕ
tail_at s at = take (length s - at) (drop at s)

pub rest_part : (s : List ℕ) (i : ℕ) → tail_at s i ≡ drop i s
rest_part s i = take_all (length s - i) (drop i s) (rw length-drop (omega arith))

-- what a scan cuts off is as long as the scan says
pub cut_length : (b : ℕ) (s : List ℕ) (t : ℕ) → t ≡ find (is b) s → t ≡ length (take t s)
cut_length b s t e = rw e (sym (length-take-le (find (is b) s) s (find_le (is b) s)))

-- the scan stays within the text
pub tail_within : (b : ℕ) (s : List ℕ) (at e : ℕ) → at ≤ length s → e ≡ find (is b) (tail_at s at) → at + e ≤ length s
tail_within b s at e h k =
    let le : e ≤ length (tail_at s at) = rw k (find_le (is b) (tail_at s at)) in
    let l : length (tail_at s at) ≡ length s - at = rw (rest_part, length-drop) in
    omega arith

-- a text that is not empty begins with the record up to its first CR, and goes on behind it
pub records_cons : (s : List ℕ) → 0 < length s → records s ≡ before cr s ∷ records (behind cr s)
records_cons [] h = absurd (omega arith)
records_cons (x ∷ []) h = by_first (is cr x)
  where
    by_first : (b : Bool) → cond b ([] ∷ []) (onto x []) ≡ take (cond b 0 1) (x ∷ []) ∷ records (drop (cond b 0 1 + 1) (x ∷ []))
    by_first true = refl
    by_first false = refl
records_cons (x ∷ y ∷ ys) h = by_first (is cr x) (records_cons (y ∷ ys) (omega arith))
  where
    by_first : (b : Bool) → records (y ∷ ys) ≡ before cr (y ∷ ys) ∷ records (behind cr (y ∷ ys))
        → cond b ([] ∷ records (y ∷ ys)) (onto x (records (y ∷ ys)))
        ≡ take (cond b 0 (suc (find (is cr) (y ∷ ys)))) (x ∷ y ∷ ys) ∷ records (drop (cond b 0 (suc (find (is cr) (y ∷ ys))) + 1) (x ∷ y ∷ ys))
    by_first true e = refl
    by_first false e = rw (add-one (suc (find (is cr) (y ∷ ys)))) (ap (onto x) (rw (add-one (find (is cr) (y ∷ ys))) at e))

pub before_length : (b : ℕ) (s : List ℕ) → length (before b s) ≡ find (is b) s
before_length b s = length-take-le (find (is b) s) s (find_le (is b) s)

-- the byte of a first field of one byte
pub before_first : (b : ℕ) (s : List ℕ) → find (is b) s ≡ 1 → get_or (before b s) 0 0 ≡ get_or s 0 0
before_first b s e = rw e (get_or-take 1 s 0 0 (omega arith))

-- The records of a text, front to back, as a loop over its bytes meets them.
-- Assumes nothing.
use mathlib.Core.Path.{◌≡◌, ap, sym, ◌∙◌}
use mathlib.Core.List.{List, ◌∷◌}
use Prim.Native.Nat.{ℕ, ◌+◌, ◌<◌, ◌≤◌}
use native.Mathlib.Omega.{arith}
use native.Mathlib.Decide.{dec_lt}
use lib.Dec.{leb}
use lib.ListN.{length, take, drop, drop_of_length-le, length-drop}
use lib.Seq.{drop-drop}
use borrow.Author.Tests.{le-leb, lt-leb}
use Rattle.memory.specs.Tests.{is, find}
use Rattle.characters.specs.Control.{cr}
use Rattle.records.specs.Records.{records, none}
use Rattle.records.proofs.Scans.{tail_at, rest_part, records_cons}

-- no record is left where no byte is
pub none_left : (s : List ℕ) (k : ℕ) → none (records (drop k s)) ≡ leb (length s) k
none_left s k =
    elim (dec_lt k (length s)) [
      | yes h ↦ rw (records_cons (drop k s) (rw length-drop (omega arith)), lt-leb (length s) k h)
      | no h ↦ let le : length s ≤ k = omega arith in rw (drop_of_length-le s le, le-leb (length s) k le)
    ]

-- the first record, and those behind it
pub split_first : (s : List ℕ) (e : ℕ) → 0 < length s → e ≡ find (is cr) s → records s ≡ take e s ∷ records (drop (e + 1) s)
split_first s e h k = rw (records_cons s h, k)

-- at a place within the text: the record there, and those behind it
pub front : (s : List ℕ) (at e : ℕ) → at < length s → e ≡ find (is cr) (tail_at s at) → records (drop at s) ≡ take e (tail_at s at) ∷ records (drop (at + (e + 1)) s)
front s at e h k =
    let p = split_first (tail_at s at) e (rw (rest_part, length-drop) (omega arith)) k in
    (ap records (sym (rest_part s at)) ∙ p) ∙ ap (λ (l : List ℕ). take e (tail_at s at) ∷ records l) (ap (drop (e + 1)) (rest_part s at) ∙ drop-drop (e + 1) at s)

pub count_front : (s : List ℕ) (at e n t : ℕ) → at < length s → e ≡ find (is cr) (tail_at s at) → n + length (records (drop at s)) ≡ t → n + 1 + length (records (drop (at + (e + 1)) s)) ≡ t
count_front s at e n t h k q = let z = ap length (front s at e h k) in omega (arith, z, q)

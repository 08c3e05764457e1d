-- A loop over the records of a text: what one turn meets.
-- Assumes nothing.
use mathlib.Core.Path.{◌≡◌, refl, sym, ap, ◌∙◌}
use mathlib.Core.Bool.{Bool, true, false, cond}
use mathlib.Core.List.{List, ◌∷◌}
use Prim.Native.Nat.{ℕ, suc, ◌+◌, ◌<◌}
use native.Mathlib.Omega.{arith}
use native.Mathlib.Numerals.{add-one}
use lib.ListN.{length, get_or, take, drop, set}
use lib.Seq.{sets, drop-cons}
use borrow.Author.Tests.{eqb-true}
use Rattle.memory.specs.Tests.{is, find}
use Rattle.characters.specs.Control.{cr}
use Rattle.records.specs.Records.{records}
use Rattle.records.proofs.Scans.{tail_at, rest_part, cut_length}
use Rattle.records.proofs.Front.{front}
use Rattle.owner.specs.Owners.{types_of}
use Rattle.owner.specs.Reading.{offsets_of, lengths_of}

-- the first byte of a record, or its CR
first_of : (x : ℕ) (xs : List ℕ) → get_or (take (find (is cr) (x ∷ xs)) (x ∷ xs)) 0 cr ≡ x
first_of x xs = go (is cr x) refl
  where
    go : (b : Bool) → is cr x ≡ b → get_or (take (cond (is cr x) 0 (suc (find (is cr) xs))) (x ∷ xs)) 0 cr ≡ x
    go true e = rw e (sym (eqb-true x cr e))
    go false e = rw e

pub type_front : (s : List ℕ) (at e : ℕ) → at < length s → e ≡ find (is cr) (tail_at s at) → get_or (take e (tail_at s at)) 0 cr ≡ get_or s at 0
type_front s at e h k =
    let c : tail_at s at ≡ get_or s at 0 ∷ drop (suc at) s = rest_part s at ∙ drop-cons s at 0 h in
    rw (k, c) (first_of (get_or s at 0) (drop (suc at) s))

-- one row stored, and the others still to store
module _ (s : List ℕ) (at e n : ℕ) (h : at < length s) (k : e ≡ find (is cr) (tail_at s at)) (old : List ℕ) (all : List ℕ) where
  pub types_front : sets old n (types_of (records (drop at s))) ≡ all → sets (set old n (get_or s at 0)) (n + 1) (types_of (records (drop (at + (e + 1)) s))) ≡ all
  types_front q = rw (add-one n, ← type_front s at e h k) (rw (front s at e h k) at q)

  pub lengths_front : sets old n (lengths_of (records (drop at s))) ≡ all → sets (set old n e) (n + 1) (lengths_of (records (drop (at + (e + 1)) s))) ≡ all
  lengths_front q =
      let z : sets (set old n (length (take e (tail_at s at)))) (suc n) (lengths_of (records (drop (at + (e + 1)) s))) ≡ all = rw (front s at e h k) at q in
      rw (add-one n) (rw (sym (cut_length cr (tail_at s at) e k)) at z)

  pub offsets_front : sets old n (offsets_of at (records (drop at s))) ≡ all → sets (set old n at) (n + 1) (offsets_of (at + (e + 1)) (records (drop (at + (e + 1)) s))) ≡ all
  offsets_front q =
      let z : sets (set old n at) (suc n) (offsets_of (at + (length (take e (tail_at s at)) + 1)) (records (drop (at + (e + 1)) s))) ≡ all = rw (front s at e h k) at q in
      rw (add-one n) (rw (sym (cut_length cr (tail_at s at) e k)) at z)

-- inside the text there is a record more to come
pub one_more : (s : List ℕ) (at e n t : ℕ) → at < length s → e ≡ find (is cr) (tail_at s at) → n + length (records (drop at s)) ≡ t → n < t
one_more s at e n t h k q = let z = ap length (front s at e h k) in omega (arith, z, q)

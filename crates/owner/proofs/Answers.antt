-- What each way out of a reading says.
-- Assumes nothing.
use Rattle.std.specs.Prelude.{Err, Ok, Result, ℕ}
use Rattle.faults.specs.declared.Refusal.TheVariants.{NotFitting}
use Rattle.faults.specs.declared.Refusal.{Refusal}
use Rattle.faults.specs.declared.Flaw.{Flaw}
use mathlib.Core.Path.{◌≡◌, refl, sym, ap, ◌∙◌}
use mathlib.Core.Bool.{Bool, true, false, cond, ◌&&◌}
use mathlib.Core.List.{List, [], ◌∷◌, ◌++◌}
use Prim.Native.Nat.{ℕ, suc, ◌+◌, ◌≤◌}
use native.Mathlib.Omega.{arith}
use lib.Dec.{leb}
use lib.ListN.{length, take, drop}
use lib.Seq.{sets, sets-eq, take_at}
use borrow.Author.Tests.{leb-true}
use Rattle.memory.specs.Tests.{unless, is}
use Rattle.memory.specs.Parts.{splice}
use Rattle.memory.proofs.Tests.{clash, and_left, and_right}
use Rattle.memory.proofs.Parts.{sets_splice}
use Rattle.characters.specs.Control.{cr}
use Rattle.records.specs.Records.{onto, records}
use Rattle.faults.specs.Message.{is_message}
use Rattle.faults.specs.Refusals.{refused_as}
use Rattle.faults.specs.Faults.{fault_of}
use Rattle.owner.specs.Inner.Nearest.{nearest_owners}
use Rattle.owner.specs.Owners.{types_of, owners_of}
use Rattle.owner.specs.Reading.{offsets_of, lengths_of, room_for, reading_of, laid, ReadAs}
use Rattle.owner.proofs.Whole.{length_owners}
use Rattle.owner.proofs.Valid.{owners_message}

onto_length : (x : ℕ) (rs : List (List ℕ)) → length (onto x rs) ≤ suc (length rs)
onto_length x [] = omega arith
onto_length x (r ∷ rs) = omega arith

-- a text has no more records than bytes
pub records_few : (s : List ℕ) → length (records s) ≤ length s
records_few [] = omega arith
records_few (x ∷ xs) = by_first (is cr x) (records_few xs)
  where
    by_first : (b : Bool) → length (records xs) ≤ length xs → length (cond b ([] ∷ records xs) (onto x (records xs))) ≤ suc (length xs)
    by_first true h = omega arith
    by_first false h = omega (arith, onto_length x (records xs))

length_types : (rs : List (List ℕ)) → length (types_of rs) ≡ length rs
length_types [] = refl
length_types (r ∷ rs) = ap suc (length_types rs)

length_offsets : (at : ℕ) (rs : List (List ℕ)) → length (offsets_of at rs) ≡ length rs
length_offsets at [] = refl
length_offsets at (r ∷ rs) = ap suc (length_offsets (at + (length r + 1)) rs)

length_lengths : (rs : List (List ℕ)) → length (lengths_of rs) ≡ length rs
length_lengths [] = refl
length_lengths (r ∷ rs) = ap suc (length_lengths rs)

-- numbers stored one after the other from the start on are a part written
laid_from_start : (old new : List ℕ) (n : ℕ) → length new ≡ n → n ≤ length old → sets old 0 new ≡ splice old 0 new
laid_from_start old new n e h = sets_splice old 0 new (omega arith)

-- the types that were stored
take_types : (old : List ℕ) (rs : List (List ℕ)) (n : ℕ) → n ≡ length rs → n ≤ length old → take n (sets old 0 (types_of rs)) ≡ types_of rs
take_types old rs n e h =
    let l : length (types_of rs) ≡ n = length_types rs ∙ sym e in
    let stored : sets old 0 (types_of rs) ≡ types_of rs ++ drop (0 + length (types_of rs)) old = sets-eq (types_of rs) old 0 (omega arith) in
    rw stored (take_at (types_of rs) (drop (0 + length (types_of rs)) old) n l)

pub room_all : (n a b c e : ℕ) → room_for n a b c e ≡ true → (n ≤ a) × (n ≤ b) × (n ≤ c) × (n ≤ e)
unfolding room_for
room_all n a b c e h =
    let h₁ = and_left (leb n a && leb n b && leb n c) (leb n e) h in
    let h₂ = and_left (leb n a && leb n b) (leb n c) h₁ in (
      leb-true n a (and_left (leb n a) (leb n b) h₂),
      leb-true n b (and_right (leb n a) (leb n b) h₂),
      leb-true n c (and_right (leb n a && leb n b) (leb n c) h₁),
      leb-true n e (and_right (leb n a && leb n b && leb n c) (leb n e) h),
    )

module _ (text ts os ls ws : List ℕ) where
  pub read_none : (r : Result ℕ Refusal) → r ≡ Err (refused_as (fault_of text)) → is_message text ≡ false → ReadAs text ts os ls ws ts os ls ws r
  unfolding reading_of
  read_none r of e = record {
    answer = of ∙ rw e;
    types = left ts (types_of (records text));
    offsets = left os (offsets_of 0 (records text));
    lengths = left ls (lengths_of (records text));
    owners = left ws (owners_of (records text));
  }
    where
      left : (old new : List ℕ) → old ≡ laid r old new
      left old new = sym (ap (λ (q : Result ℕ Refusal). laid q old new) of)

  pub read_short : is_message text ≡ true → room_for (length (records text)) (length ts) (length os) (length ls) (length ws) ≡ false → ReadAs text ts os ls ws ts os ls ws (Err NotFitting)
  unfolding reading_of
  read_short e f = record { answer = rw (e, f); types = refl; offsets = refl; lengths = refl; owners = refl }

  pub read_done : (ts' os' ls' ws' us : List ℕ) (n : ℕ) → n ≡ length (records text) → is_message text ≡ true
      → room_for (length (records text)) (length ts) (length os) (length ls) (length ws) ≡ true
      → ts' ≡ sets ts 0 (types_of (records text)) → os' ≡ sets os 0 (offsets_of 0 (records text)) → ls' ≡ sets ls 0 (lengths_of (records text))
      → us ≡ take n ts' → ws' ≡ sets ws 0 (nearest_owners us) → ReadAs text ts os ls ws ts' os' ls' ws' (Ok n)
  unfolding reading_of
  read_done ts' os' ls' ws' us n k e f t o l u w =
      let (a, b, c, g) = room_all (length (records text)) (length ts) (length os) (length ls) (length ws) f in
      let v : us ≡ types_of (records text) = u ∙ rw t (take_types ts (records text) n k (omega arith)) in
      let same : nearest_owners us ≡ owners_of (records text) = ap nearest_owners v ∙ owners_message _ text e in
      let many : length (owners_of (records text)) ≡ length (records text) =
      sym (ap length (owners_message _ text e)) ∙ length_owners (types_of (records text)) 0 (length (types_of (records text))) ∙ length_types (records text) in
      record {
        answer = rw (e, f, k);
        types = t ∙ laid_from_start ts (types_of (records text)) (length (records text)) (length_types (records text)) a;
        offsets = o ∙ laid_from_start os (offsets_of 0 (records text)) (length (records text)) (length_offsets 0 (records text)) b;
        lengths = l ∙ laid_from_start ls (lengths_of (records text)) (length (records text)) (length_lengths (records text)) c;
        owners = w ∙ ap (sets ws 0) same ∙ laid_from_start ws (owners_of (records text)) (length (records text)) many g;
      }

-- a message that was read has no more records than each memory has places
pub read_fits : (text : List ℕ) (a b c e n : ℕ) → reading_of text a b c e ≡ Ok n
    → (length (records text) ≤ a) × (length (records text) ≤ b) × (length (records text) ≤ c) × (length (records text) ≤ e)
unfolding reading_of
read_fits text a b c e n h = room_all (length (records text)) a b c e (by_tests (is_message text) (room_for (length (records text)) a b c e) h)
  where
    by_tests : (m r : Bool) → unless m (Err (refused_as (fault_of text))) (unless r (Err NotFitting) (Ok (length (records text)))) ≡ Ok n → r ≡ true
    by_tests true true g = refl
    by_tests true false g = clash cc
    by_tests false r g = clash cc

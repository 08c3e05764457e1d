-- What stands in a block that is laid out as it must be.
-- Assumes nothing.
use mathlib.Core.Path.{◌≡◌, refl, ap, ◌∙◌}
use mathlib.Core.Bool.{true, false}
use mathlib.Core.List.{List, [], ◌∷◌, ◌++◌, append_assoc}
use Prim.Native.Nat.{ℕ, zero, suc, ◌+◌}
use lib.ListN.{length, take, drop}
use lib.Seq.{drop-drop, take_at, drop_at}
use borrow.Author.Tests.{eqb-true}
use Rattle.memory.specs.Parts.{part}
use Rattle.memory.specs.Tests.{is, all}
use Rattle.memory.proofs.Tests.{and_left, and_right, and_both, never_both}
use Rattle.settings.specs.Settings.{patient_length}
use Rattle.settings.specs.declared.Patient.{Patient}
use Rattle.settings.specs.declared.Patient.TheVariants.{Ten, Thirteen}
use Rattle.block.specs.Places.{Place, is_datum, fits, matches, some_data, spaces, letters}
use Rattle.block.specs.Layouts.{Result, results, places_of, back, results_block}
use Rattle.finding.specs.Trimmed.{is_space}
use Rattle.finding.specs.Findings.{patient_at, sequence_at, sequence_length, results_at}

-- what is laid out so is so from a place on, and up to one
matches_drop : (n : ℕ) (ps : List Place) (bs : List ℕ) → matches ps bs ≡ true → matches (drop n ps) (drop n bs) ≡ true
matches_drop zero ps bs h = h
matches_drop (suc n) [] [] h = refl
matches_drop (suc n) [] (b ∷ bs) h = never_both false h refl
matches_drop (suc n) (p ∷ ps) [] h = never_both false h refl
matches_drop (suc n) (p ∷ ps) (b ∷ bs) h = matches_drop n ps bs (and_right (fits p b) (matches ps bs) h)

matches_take : (n : ℕ) (ps : List Place) (bs : List ℕ) → matches ps bs ≡ true → matches (take n ps) (take n bs) ≡ true
matches_take zero ps bs h = refl
matches_take (suc n) [] [] h = refl
matches_take (suc n) [] (b ∷ bs) h = never_both false h refl
matches_take (suc n) (p ∷ ps) [] h = never_both false h refl
matches_take (suc n) (p ∷ ps) (b ∷ bs) h =
    and_both (fits p b) (matches (take n ps) (take n bs)) (and_left (fits p b) (matches ps bs) h) (matches_take n ps bs (and_right (fits p b) (matches ps bs) h))

matches_part : (at n : ℕ) (ps : List Place) (bs : List ℕ) → matches ps bs ≡ true → matches (part ps at n) (part bs at n) ≡ true
unfolding part
matches_part at n ps bs h = matches_take n (drop at ps) (drop at bs) (matches_drop at ps bs h)

-- these very bytes, bytes of data, spaces
are_letters : (n bs : List ℕ) → matches (letters n) bs ≡ true → bs ≡ n
are_letters [] [] h = refl
are_letters [] (b ∷ bs) h = never_both false h refl
are_letters (c ∷ n) [] h = never_both false h refl
are_letters (c ∷ n) (b ∷ bs) h =
    let first : b ≡ c = eqb-true b c (and_left (is c b) (matches (letters n) bs) h) in
    rw (first, are_letters n bs (and_right (is c b) (matches (letters n) bs) h))

are_data : (n : ℕ) (bs : List ℕ) → matches (some_data n) bs ≡ true → all is_datum bs ≡ true
are_data zero [] h = refl
are_data zero (b ∷ bs) h = never_both false h refl
are_data (suc n) [] h = never_both false h refl
are_data (suc n) (b ∷ bs) h =
    and_both (is_datum b) (all is_datum bs) (and_left (is_datum b) (matches (some_data n) bs) h) (are_data n bs (and_right (is_datum b) (matches (some_data n) bs) h))

are_spaces : (n : ℕ) (bs : List ℕ) → matches (spaces n) bs ≡ true → all is_space bs ≡ true
are_spaces zero [] h = refl
are_spaces zero (b ∷ bs) h = never_both false h refl
are_spaces (suc n) [] h = never_both false h refl
are_spaces (suc n) (b ∷ bs) h =
    and_both (is_space b) (all is_space bs) (and_left (is_space b) (matches (spaces n) bs) h) (are_spaces n bs (and_right (is_space b) (matches (spaces n) bs) h))

-- a result at its place: its name, its value, and the spaces behind it
pub record Stands (bs : List ℕ) (at : ℕ) (r : Result) : Type 0 where
  pub name : part bs at (length r.name) ≡ r.name
  pub value : all is_datum (part bs (at + length r.name) r.value) ≡ true
  pub blank : all is_space (part bs (at + length r.name + r.value) r.blank) ≡ true

abbrev pub behind_it : ℕ → Result → ℕ
behind_it at r = at + length r.name + r.value + r.blank

abbrev pub AllStand : List ℕ → ℕ → List Result → Type 0
AllStand bs at [] = Unit {0}
AllStand bs at (r ∷ rs) = Stands bs at r × AllStand bs (behind_it at r) rs

length_letters : (n : List ℕ) → length (letters n) ≡ length n
length_letters [] = refl
length_letters (b ∷ n) = ap suc (length_letters n)

length_data : (n : ℕ) → length (some_data n) ≡ n
length_data zero = refl
length_data (suc n) = ap suc (length_data n)

length_spaces : (n : ℕ) → length (spaces n) ≡ n
length_spaces zero = refl
length_spaces (suc n) = ap suc (length_spaces n)

-- the first n places of some, and the others
splits : (bs : List ℕ) (at n : ℕ) (ps qs : List Place) → length ps ≡ n → matches (ps ++ qs) (drop at bs) ≡ true
    → (matches ps (part bs at n) ≡ true) × (matches qs (drop (at + n) bs) ≡ true)
unfolding part
splits bs at n ps qs e h =
    (rw (take_at ps qs n e) at (matches_take n (ps ++ qs) (drop at bs) h), rw (drop_at ps qs n e, drop-drop n at bs) at (matches_drop n (ps ++ qs) (drop at bs) h))

all_stand : (bs : List ℕ) (at : ℕ) (rs : List Result) (qs : List Place) → matches (places_of rs ++ qs) (drop at bs) ≡ true → AllStand bs at rs
all_stand bs at [] qs h = tt
all_stand bs at (r ∷ rs) qs h =
    let n = length r.name in
    let apart : places_of (r ∷ rs) ++ qs ≡ letters r.name ++ (some_data r.value ++ (spaces r.blank ++ (places_of rs ++ qs))) =
    append_assoc (letters r.name) (some_data r.value ++ (spaces r.blank ++ places_of rs)) qs
    ∙ ap (λ (l : List Place). letters r.name ++ l)
    (append_assoc (some_data r.value) (spaces r.blank ++ places_of rs) qs
    ∙ ap (λ (l : List Place). some_data r.value ++ l) (append_assoc (spaces r.blank) (places_of rs) qs)) in
    let (name, h₁) = splits bs at n (letters r.name) (some_data r.value ++ (spaces r.blank ++ (places_of rs ++ qs))) (length_letters r.name) (rw apart at h) in
    let (value, h₂) = splits bs (at + n) r.value (some_data r.value) (spaces r.blank ++ (places_of rs ++ qs)) (length_data r.value) h₁ in
    let (blank, h₃) = splits bs (at + n + r.value) r.blank (spaces r.blank) (places_of rs ++ qs) (length_spaces r.blank) h₂ in (
      record {
        name = are_letters r.name (part bs at n) name;
        value = are_data r.value (part bs (at + n) r.value) value;
        blank = are_spaces r.blank (part bs (at + n + r.value) r.blank) blank;
      },
      all_stand bs (behind_it at r) rs qs h₃,
    )

-- a block with results: its numbers are data, and each result stands at its place
pub record Placed (p : Patient) (bs : List ℕ) : Type 0 where
  pub patient : all is_datum (part bs patient_at (patient_length p)) ≡ true
  pub sequence : all is_datum (part bs (sequence_at p) sequence_length) ≡ true
  pub stand : AllStand bs (results_at p) results

pub placed : (p : Patient) (bs : List ℕ) → matches (results_block p) bs ≡ true → Placed p bs
unfolding part results_block
placed p bs h =
    record {
      patient = are_data (patient_length p) (part bs patient_at (patient_length p)) (patient_there p h);
      sequence = are_data sequence_length (part bs (sequence_at p) sequence_length) (sequence_there p h);
      stand = all_stand bs (results_at p) results back (results_there p h);
    }
  where
    patient_there : (q : Patient) → matches (results_block q) bs ≡ true → matches (some_data (patient_length q)) (part bs patient_at (patient_length q)) ≡ true
    patient_there Ten h = matches_part patient_at 10 (results_block Ten) bs h
    patient_there Thirteen h = matches_part patient_at 13 (results_block Thirteen) bs h

    sequence_there : (q : Patient) → matches (results_block q) bs ≡ true → matches (some_data sequence_length) (part bs (sequence_at q) sequence_length) ≡ true
    sequence_there Ten h = matches_part (sequence_at Ten) sequence_length (results_block Ten) bs h
    sequence_there Thirteen h = matches_part (sequence_at Thirteen) sequence_length (results_block Thirteen) bs h

    results_there : (q : Patient) → matches (results_block q) bs ≡ true → matches (places_of results ++ back) (drop (results_at q) bs) ≡ true
    results_there Ten h = matches_drop (results_at Ten) (results_block Ten) bs h
    results_there Thirteen h = matches_drop (results_at Thirteen) (results_block Thirteen) bs h

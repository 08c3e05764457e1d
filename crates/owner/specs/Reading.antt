-- What reading a message gives for each record: type, offset, length without CR, owner. [R14]
-- Assumes nothing.
use Rattle.faults.specs.declared.Refusal.TheVariants.{Faulty, Malformed, NotFitting}
use Rattle.faults.specs.declared.Refusal.{Refusal}
use Rattle.std.specs.Prelude.{ℕ, ◌+◌, ◌≡◌, List, [], ◌∷◌, Bool, ◌&&◌, leb, length, Err, Ok, Result}
use Rattle.memory.specs.Tests.{unless}
use Rattle.memory.specs.Parts.{splice}
use Rattle.records.specs.Records.{records}
use Rattle.faults.specs.Message.{is_message}
use Rattle.faults.specs.Refusals.{refused_as}
use Rattle.faults.specs.Faults.{fault_of}
use Rattle.answers.specs.Paper.{fault_number}
use Rattle.owner.specs.Owners.{types_of, owners_of}

abbrev pub lengths_of : List (List ℕ) → List ℕ
lengths_of [] = []
lengths_of (r ∷ rs) = length r ∷ lengths_of rs

-- where each record starts, the first at `at` [R14]
abbrev pub offsets_of : ℕ → List (List ℕ) → List ℕ
offsets_of at [] = []
offsets_of at (r ∷ rs) = at ∷ offsets_of (at + (length r + 1)) rs

-- each of four memories has n places
unfoldable pub room_for : ℕ → ℕ → ℕ → ℕ → ℕ → Bool
room_for n types offsets lengths owners = leb n types && leb n offsets && leb n lengths && leb n owners

-- the answer: that for what is no message, then 47 where one of four memories of these lengths is too short, else the number of records [A47, O6, R14]
unfoldable pub reading_of : List ℕ → ℕ → ℕ → ℕ → ℕ → Result ℕ Refusal
reading_of text types offsets lengths owners =
    unless (is_message text) (Err (refused_as (fault_of text)))
    (unless (room_for (length (records text)) types offsets lengths owners) (Err NotFitting) (Ok (length (records text))))

-- a memory after an answer: these numbers at its start and its rest kept where the message was read, else as it was [R21]
abbrev pub laid : Result ℕ Refusal → List ℕ → List ℕ → List ℕ
laid (Ok n) old new = splice old 0 new
laid (Err e) old new = old

-- number and values of a refusal; none for a reading
abbrev pub paper : Result ℕ Refusal → List ℕ
paper (Ok n) = []
paper (Err Malformed) = 46 ∷ []
paper (Err NotFitting) = 47 ∷ []
paper (Err (Faulty f place)) = fault_number f ∷ place ∷ []

-- what reading says: the answer, and each of the four memories after it [R14]
pub record ReadAs (text ts os ls ws ts' os' ls' ws' : List ℕ) (r : Result ℕ Refusal) : Type 0 where
  pub answer : r ≡ reading_of text (length ts) (length os) (length ls) (length ws)
  pub types : ts' ≡ laid r ts (types_of (records text))
  pub offsets : os' ≡ laid r os (offsets_of 0 (records text))
  pub lengths : ls' ≡ laid r ls (lengths_of (records text))
  pub owners : ws' ≡ laid r ws (owners_of (records text))

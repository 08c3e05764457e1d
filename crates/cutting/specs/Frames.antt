-- A message cut into frames in lent memory.
-- Assumes nothing.
use Rattle.faults.specs.declared.Refusal.TheVariants.{Faulty, Malformed, NotFitting}
use Rattle.faults.specs.declared.Refusal.{Refusal}
use Rattle.std.specs.Prelude.{ℕ, ◌≡◌, Bool, cond, ◌&&◌, List, [], ◌∷◌, length, leb, ltb, Err, Ok, Result}
use Rattle.memory.specs.Parts.{splice}
use Rattle.memory.specs.Tests.{unless}
use Rattle.digits.specs.Number.{first_number}
use Rattle.frame.specs.Shape.{around_text}
use Rattle.framing.specs.Frames.{frames_from}
use Rattle.faults.specs.Message.{is_message}
use Rattle.faults.specs.Refusals.{refused_as}
use Rattle.faults.specs.Faults.{fault_of}
use Rattle.answers.specs.Paper.{fault_number}
use Rattle.pieces.specs.Pieces.{pieces_of}

-- the frames of a text, one behind the other [C4]
unfoldable pub cut_of : ℕ → List ℕ → List ℕ
cut_of limit text = frames_from first_number (pieces_of limit text)

-- the text is a message, and the limit leaves room for a byte of it in a frame [C1]
unfoldable pub is_cuttable : ℕ → List ℕ → Bool
is_cuttable limit text = ltb around_text limit && is_message text

abbrev pub holds : List ℕ → List ℕ → Bool
holds out bs = leb (length bs) (length out)

-- and 46 before all where the limit leaves no room
abbrev pub uncut : ℕ → List ℕ → Result ℕ Refusal
uncut limit text = unless (ltb around_text limit) (Err Malformed) (Err (refused_as (fault_of text)))

-- the length of the frames, or why there are none [A47, O6, C4]
unfoldable pub cut_answer : ℕ → List ℕ → List ℕ → Result ℕ Refusal
cut_answer limit text out =
    unless (is_cuttable limit text) (uncut limit text) (unless (holds out (cut_of limit text)) (Err NotFitting) (Ok (length (cut_of limit text))))

-- the memory after it: the frames over its start, and unchanged where there are none [R21, C4]
unfoldable pub cut_in : ℕ → List ℕ → List ℕ → List ℕ
cut_in limit text out = cond (is_cuttable limit text && holds out (cut_of limit text)) (splice out 0 (cut_of limit text)) out

-- what cutting says: the answer, and the memory after it
pub record CutInto (limit : ℕ) (text out : List ℕ) (r : Result ℕ Refusal) (out' : List ℕ) : Type 0 where
  pub answer : r ≡ cut_answer limit text out
  pub after : out' ≡ cut_in limit text out

-- number and values of a refusal; none for frames
abbrev pub paper : Result ℕ Refusal → List ℕ
paper (Ok n) = []
paper (Err Malformed) = 46 ∷ []
paper (Err NotFitting) = 47 ∷ []
paper (Err (Faulty f place)) = fault_number f ∷ place ∷ []

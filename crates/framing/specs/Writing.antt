-- The writing of one frame into lent memory.
-- Assumes nothing.
use Rattle.framing.specs.declared.Refusal.TheVariants.{Malformed, NotFitting}
use Rattle.framing.specs.declared.Refusal.{Refusal}
use Rattle.std.specs.Prelude.{◌≡◌, ℕ, ◌+◌, Bool, cond, ◌&&◌, List, [], ◌∷◌, ◌++◌, length, nat_le, Err, None, Ok, Option, Result, Some}
use Rattle.memory.specs.Parts.{splice}
use Rattle.memory.specs.Tests.{unless}
use Rattle.characters.specs.Control.{stx, etx, lf, cr, etb}
use Rattle.digits.specs.Check.{check_of, digits_of}
use Rattle.digits.specs.Number.{most_number, digit_for}
use Rattle.frame.specs.Shape.{around_text}
use Rattle.frame.specs.declared.End.{End}
use Rattle.frame.specs.declared.End.TheVariants.{Etb, Etx}

abbrev pub end_byte : End → ℕ
end_byte Etb = etb
end_byte Etx = etx

-- from the number digit to ETB or ETX: what the check counts [F1]
unfoldable pub body_of : ℕ → End → List ℕ → List ℕ
body_of number end text = digit_for number ∷ (text ++ (end_byte end ∷ []))

-- the two check digits of a body, CR, LF [F1]
unfoldable pub tail_of : List ℕ → List ℕ
tail_of body = (digits_of (check_of body)).high ∷ (digits_of (check_of body)).low ∷ cr ∷ lf ∷ []

-- what is collected of a frame, and the frame: STX in front of that [F1]
unfoldable pub collected_of : ℕ → End → List ℕ → List ℕ
collected_of number end text = body_of number end text ++ tail_of (body_of number end text)

unfoldable pub frame_of : ℕ → End → List ℕ → List ℕ
frame_of number end text = stx ∷ collected_of number end text

-- the whole frame fits into the memory
abbrev pub has_room : List ℕ → List ℕ → Bool
has_room text out = nat_le (length text + around_text) (length out)

-- the length of the frame written, or why there is none: of any bytes, of which only the number is tested
unfoldable pub put_of : ℕ → List ℕ → List ℕ → Result ℕ Refusal
put_of number text out = unless (nat_le number most_number) (Err Malformed) (unless (has_room text out) (Err NotFitting) (Ok (length text + around_text)))

-- the memory after it: the frame over its start, and unchanged where none is written
unfoldable pub put_in : ℕ → End → List ℕ → List ℕ → List ℕ
put_in number end text out = cond (nat_le number most_number && has_room text out) (splice out 0 (frame_of number end text)) out

-- what writing a frame says: the answer, and the memory after it
pub record FramePut (number : ℕ) (end : End) (text out : List ℕ) (r : Result ℕ Refusal) (out' : List ℕ) : Type 0 where
  pub answer : r ≡ put_of number text out
  pub after : out' ≡ put_in number end text out

-- the number of each refusal
abbrev pub refused_by : Result ℕ Refusal → Option ℕ
refused_by (Err Malformed) = Some 46
refused_by (Err NotFitting) = Some 47
refused_by (Ok n) = None

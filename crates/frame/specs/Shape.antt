-- The shape of a frame, from the bytes collected for it: STX is left out, the byte that ended it is counted.
-- In their order: number digit, text, ETB or ETX, two check digits, CR, LF.
-- Assumes nothing.
use Rattle.frame.specs.declared.Flaw.TheVariants.{BadNumber, BadText, Torn, Unended, WrongCheck}
use Rattle.frame.specs.declared.Flaw.{Flaw}
use Rattle.std.specs.Prelude.{ℕ, ◌-◌, Bool, cond, ◌&&◌, ◌||◌, List, length, get_or, take, leb, ltb, Err, None, Ok, Option, Result, Some}
use Rattle.memory.specs.Parts.{part}
use Rattle.memory.specs.Tests.{unless, is, all}
use Rattle.characters.specs.Control.{etx, lf, cr, etb}
use Rattle.characters.specs.Allowed.{allowed}
use Rattle.digits.specs.Check.{check_of, digits_of}
use Rattle.digits.specs.Number.{is_number, number_from}
use Rattle.frame.specs.declared.End.{End}
use Rattle.frame.specs.declared.End.TheVariants.{Etb, Etx}

-- the bytes of a frame that are not text: STX, digit, ETB or ETX, two check digits, CR, LF; all but STX are collected [F1]
abbrev pub around_text : ℕ
around_text = 7

abbrev pub least_collected : ℕ
least_collected = around_text - 1

-- of these, those that are there before the LF comes; and those behind what the check counts: two check digits, CR, LF
abbrev pub around_collected : ℕ
around_collected = least_collected - 1

abbrev pub behind_counted : ℕ
behind_counted = 4

-- the k-th byte from the end
abbrev pub from_end : List ℕ → ℕ → ℕ
from_end bs k = get_or bs (length bs - k) 0

-- the pieces: the digit, the text, and what the check counts, from the digit to ETB or ETX [F2, F6]
abbrev pub digit_in : List ℕ → ℕ
digit_in bs = get_or bs 0 0

abbrev pub text_in : List ℕ → List ℕ
text_in bs = part bs 1 (length bs - least_collected)

abbrev pub counted_in : List ℕ → List ℕ
counted_in bs = take (length bs - behind_counted) bs

-- ETB or ETX
abbrev pub is_end : ℕ → Bool
is_end b = is etx b || is etb b

abbrev pub end_from : ℕ → End
end_from b = cond (is etx b) Etx Etb

-- 21: an LF ends the frame within the limit, which counts STX [A21]
unfoldable pub is_ended : ℕ → List ℕ → Bool
is_ended limit bs = ltb (length bs) limit && is lf (from_end bs 1)

-- 22: at least 6 are collected, CR stands before LF, and ETB or ETX fifth from the end [A22]
unfoldable pub is_built : List ℕ → Bool
is_built bs = leb least_collected (length bs) && is cr (from_end bs 2) && is_end (from_end bs 5)

-- 23: the two check digits are those of the check [A23]
unfoldable pub is_checked : List ℕ → Bool
is_checked bs =
    is (digits_of (check_of (counted_in bs))).high (from_end bs 4) && is (digits_of (check_of (counted_in bs))).low (from_end bs 3)

-- 24 and 25, or the frame's number, its end and the length of its text [A24, A25, O4]
unfoldable pub inner_of : List ℕ → Result (ℕ × End × ℕ) Flaw
inner_of bs =
    unless (all allowed (text_in bs)) (Err BadText)
    (unless (is_number (digit_in bs)) (Err BadNumber) (Ok (number_from (digit_in bs), end_from (from_end bs 5), length (text_in bs))))

-- the first of 21 to 25 that applies, or the frame [F11, O4]
unfoldable pub shape_of : ℕ → List ℕ → Result (ℕ × End × ℕ) Flaw
shape_of limit bs =
    unless (is_ended limit bs) (Err Unended) (unless (is_built bs) (Err Torn) (unless (is_checked bs) (Err WrongCheck) (inner_of bs)))

-- the number of each refusal
abbrev pub refusal_of : Result (ℕ × End × ℕ) Flaw → Option ℕ
refusal_of (Err Unended) = Some 21
refusal_of (Err Torn) = Some 22
refusal_of (Err WrongCheck) = Some 23
refusal_of (Err BadText) = Some 24
refusal_of (Err BadNumber) = Some 25
refusal_of (Ok (number, end, length)) = None

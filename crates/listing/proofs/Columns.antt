-- The columns of a row and the other lines of the listing, measured.
-- Assumes nothing.
use Rattle.std.proofs.Common.{◌≡◌, ℕ, ◌+◌, ◌<◌, ◌≤◌, [], ◌∷◌, ◌++◌, length, arith, length-append, eq-eqb, ne_eqb}
use native.Mathlib.Decide.{ℕ_discrete}
use Rattle.decimal.specs.Decimal.{decimal_of}
use Rattle.decimal.proofs.Digits.{twenty, most_digits_law}
use Rattle.listing.specs.Texts.{space, newline, taken, reply_digits, last_text, word_text, row_text, events_text, total_text, line_text, no_event_text, fault_text}

pub length_word : (n : ℕ) → length (word_text n) ≡ length (decimal_of n) + 1
unfolding word_text
length_word n = length-append (decimal_of n) (space ∷ [])

-- the last column of an entry taken, and of any other answer
pub last_taken : (number size : ℕ) → number ≡ taken → last_text number size ≡ decimal_of size
unfolding last_text
last_taken number size e = rw (eq-eqb number taken e)

pub last_reply : (number size : ℕ) → (number ≡ taken → ⊥) → last_text number size ≡ (reply_digits number).high ∷ (reply_digits number).low ∷ []
unfolding last_text
last_reply number size n = rw (ne_eqb number taken n)

last_short : (number size : ℕ) → size < 18446744073709551616 → length (last_text number size) ≤ 20
last_short number size h = elim (ℕ_discrete number taken) [
  | yes e ↦ rw (last_taken number size e) (twenty size h)
  | no n ↦ rw (last_reply number size n) (omega arith)
]

pub length_columns : (event line number size : ℕ)
    → length (row_text event line number size) ≡ length (word_text event) + length (word_text line) + length (word_text number) + length (last_text number size) + 1
unfolding row_text
length_columns event line number size =
    rw (
      length-append (word_text event) (word_text line ++ (word_text number ++ (last_text number size ++ (newline ∷ [])))),
      length-append (word_text line) (word_text number ++ (last_text number size ++ (newline ∷ []))),
      length-append (word_text number) (last_text number size ++ (newline ∷ [])),
      length-append (last_text number size) (newline ∷ []),
    ) (omega arith)

pub length_row : (event line number size : ℕ)
    → length (row_text event line number size) ≡ length (decimal_of event) + length (decimal_of line) + length (decimal_of number) + length (last_text number size) + 4
length_row event line number size = omega (arith, length_columns event line number size, length_word event, length_word line, length_word number)

pub length_total : (n : ℕ) → length (total_text n) ≡ length (decimal_of n) + 8
unfolding total_text
length_total n = length-append (decimal_of n) events_text

pub length_fault : (n : ℕ) → length (fault_text n) ≡ 5 + length (decimal_of n) + 15
unfolding fault_text
length_fault n = rw (length-append line_text (decimal_of n ++ no_event_text), length-append (decimal_of n) no_event_text) (omega arith)

-- the longest row, of 64-bit numbers and of bytes
pub longest_row : (event line number size : ℕ) → event < 18446744073709551616 → line < 256 → number < 256 → size < 18446744073709551616
    → length (row_text event line number size) ≤ 50
longest_row event line number size h k g f =
    let last : length (last_text number size) ≤ 20 = last_short number size f in
    omega (arith, length_row event line number size, twenty event h, most_digits_law 2 line (omega arith), most_digits_law 2 number (omega arith))

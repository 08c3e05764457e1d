-- The lines of the replay listing, and what writing one into lent memory says.
-- Assumes nothing.
use Rattle.std.specs.Prelude.{◌≡◌, ℕ, ◌+◌, cond, List, [], ◌∷◌, ◌++◌, length, None, Option, Some}
use Rattle.memory.specs.Moves.{fits_at, copied}
use Rattle.memory.specs.Tests.{is}
use Rattle.digits.specs.Check.{digits_of}
use Rattle.digits.specs.declared.Digits.{Digits}
use Rattle.answers.specs.Paper.{reply_of}
use Rattle.decimal.specs.Decimal.{decimal_of}

abbrev pub space : ℕ
space = 0x20

abbrev pub newline : ℕ
newline = 0x0a

-- `event line answer reply` [T7]
abbrev pub header_text : List ℕ
header_text =
    0x65 ∷ 0x76 ∷ 0x65 ∷ 0x6e ∷ 0x74 ∷ space
    ∷ 0x6c ∷ 0x69 ∷ 0x6e ∷ 0x65 ∷ space
    ∷ 0x61 ∷ 0x6e ∷ 0x73 ∷ 0x77 ∷ 0x65 ∷ 0x72 ∷ space
    ∷ 0x72 ∷ 0x65 ∷ 0x70 ∷ 0x6c ∷ 0x79 ∷ newline ∷ []

-- the answer to a taking that took an entry
abbrev pub taken : ℕ
taken = 8

-- two dashes where there is no reply
abbrev pub no_digits : Digits
no_digits = record { high = 0x2d; low = 0x2d }

-- a reply as two hex digits [T7]
abbrev pub reply_in : Option ℕ → Digits
reply_in None = no_digits
reply_in (Some b) = digits_of b

abbrev pub reply_digits : ℕ → Digits
reply_digits number = reply_in (reply_of number)

-- the last column: the length of an entry taken, and the reply to any other answer [T8]
unfoldable pub last_text : ℕ → ℕ → List ℕ
last_text number size = cond (is taken number) (decimal_of size) ((reply_digits number).high ∷ (reply_digits number).low ∷ [])

-- a number and the space behind it
unfoldable pub word_text : ℕ → List ℕ
word_text n = decimal_of n ++ (space ∷ [])

-- the row of an event or a taking: its number, its line, the answer's number, and the reply or the length of the entry taken [T7]
unfoldable pub row_text : ℕ → ℕ → ℕ → ℕ → List ℕ
row_text event line number size = word_text event ++ (word_text line ++ (word_text number ++ (last_text number size ++ (newline ∷ []))))

-- ` events`
abbrev pub events_text : List ℕ
events_text = space ∷ 0x65 ∷ 0x76 ∷ 0x65 ∷ 0x6e ∷ 0x74 ∷ 0x73 ∷ newline ∷ []

-- the last line of a listing that ran to its end: `3 events` [T9]
unfoldable pub total_text : ℕ → List ℕ
total_text events = decimal_of events ++ events_text

-- `line ` and `: not an event`
abbrev pub line_text : List ℕ
line_text = 0x6c ∷ 0x69 ∷ 0x6e ∷ 0x65 ∷ space ∷ []

abbrev pub no_event_text : List ℕ
no_event_text =
    0x3a ∷ space
    ∷ 0x6e ∷ 0x6f ∷ 0x74 ∷ space
    ∷ 0x61 ∷ 0x6e ∷ space
    ∷ 0x65 ∷ 0x76 ∷ 0x65 ∷ 0x6e ∷ 0x74 ∷ newline ∷ []

-- the last line of one that ends at a line that is not an event: `line 7: not an event` [T10]
unfoldable pub fault_text : ℕ → List ℕ
fault_text line = line_text ++ (decimal_of line ++ no_event_text)

-- where the text ends, or no room for it
unfoldable pub end_of : List ℕ → List ℕ → ℕ → Option ℕ
end_of text out at = cond (fits_at out at text) (Some (at + length text)) None

-- what writing a text says: the answer, and the memory after it, which is unchanged where the text has no room
pub record TextWritten (text out : List ℕ) (at : ℕ) (r : Option ℕ) (out' : List ℕ) : Type 0 where
  pub answer : r ≡ end_of text out at
  pub after : out' ≡ copied out at text

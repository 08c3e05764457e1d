-- An answer in plain numbers, as a host gets it: to a call on a line, and to one that writes into the host's memory.
-- Assumes nothing.
use Rattle.std.specs.Prelude.{ℕ, None, Option, Some}
use Rattle.answers.specs.Paper.{number_of, place_of, first_out}
use Rattle.answers.specs.declared.Answer.{Answer}
use Rattle.answers.specs.declared.Answered.{Answered}
use Rattle.answers.specs.declared.Made.{Made}

-- a reply byte, or 0 for none
abbrev pub reply_byte : Option ℕ → ℕ
reply_byte None = 0
reply_byte (Some b) = b

-- the answer to an event or a start: a fault's place is all that one carries [H5]
unfoldable pub in_numbers : Answer → Answered
in_numbers a = record { number = number_of a; reply = reply_byte (first_out a); serial = 0; place = place_of a; digits = 0; length = 0 }

-- done, and so much written: 0, which is the number of no refusal [H5]
abbrev pub done : ℕ → Made
done n = record { number = 0; spare = 0; place = 0; value = 0; length = n }

-- refused with this answer's number and, for a fault, its place; nothing written [H5]
abbrev pub refused_with : Answer → Made
refused_with a = record { number = number_of a; spare = 0; place = place_of a; value = 0; length = 0 }

-- The four escapes: which letter stands for which delimiter. Both directions look into this table.
-- Assumes nothing.
use Rattle.std.specs.Prelude.{ℕ, List, [], ◌∷◌, cond, None, Option, Some}
use Rattle.memory.specs.Tests.{is}
use Rattle.kinds.specs.declared.Delimiters.{Delimiters}

-- a letter, and the delimiter that it stands for
pub record Lettered : Type 0 where
  pub letter : ℕ
  pub delimiter : ℕ

abbrev pub lettered : ℕ → ℕ → Lettered
lettered letter delimiter = record { letter = letter; delimiter = delimiter }

-- F for the field delimiter, S for the component's, R for the repeat's, E for the escape's [R17]
abbrev pub escapes : Delimiters → List Lettered
escapes d = lettered 0x46 d.field ∷ lettered 0x53 d.component ∷ lettered 0x52 d.repeat ∷ lettered 0x45 d.escape ∷ []

-- the letter of a byte; 0 where the byte is no delimiter
abbrev pub letter_in : List Lettered → ℕ → ℕ
letter_in [] b = 0
letter_in (e ∷ es) b = cond (is e.delimiter b) e.letter (letter_in es b)

unfoldable pub letter_for : Delimiters → ℕ → ℕ
letter_for d b = letter_in (escapes d) b

-- the delimiter of a letter; none for any other byte
abbrev pub delimiter_in : List Lettered → ℕ → Option ℕ
delimiter_in [] l = None
delimiter_in (e ∷ es) l = cond (is e.letter l) (Some e.delimiter) (delimiter_in es l)

unfoldable pub meant : Delimiters → ℕ → Option ℕ
meant d l = delimiter_in (escapes d) l

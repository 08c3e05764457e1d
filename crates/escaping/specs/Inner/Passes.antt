-- The two passes of an unescaping: the first measures, the second writes what the first has found right.
-- Assumes nothing.
use Rattle.std.specs.Prelude.{ℕ, List, [], ◌∷◌, length, None, Option, Some}
use Rattle.std.specs.Option.{unwrap_or}
use Rattle.kinds.specs.declared.Delimiters.{Delimiters}
use Rattle.kinds.specs.Delimiters.{standard}
use Rattle.escaping.specs.Letters.{Lettered, escapes}
use Rattle.escaping.specs.Unescape.{unescaped}

-- the letters of the escapes: they are the same with any delimiters
abbrev pub letters_in : List Lettered → List ℕ
letters_in [] = []
letters_in (e ∷ es) = e.letter ∷ letters_in es

abbrev pub letters : List ℕ
letters = letters_in (escapes standard)

-- what the first pass finds: the length of the text that a component stands for
abbrev pub size_of : Option (List ℕ) → Option ℕ
size_of None = None
size_of (Some t) = Some (length t)

unfoldable pub measured : Delimiters → List ℕ → Option ℕ
measured d c = size_of (unescaped d c)

-- what the second writes: that text
abbrev pub plain : Delimiters → List ℕ → List ℕ
plain d c = unwrap_or (unescaped d c) []

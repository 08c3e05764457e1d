-- The four delimiters of a message: between fields, between repeats, between components, and around an escape.
-- Assumes nothing.
use Rattle.std.specs.Prelude.{ℕ, ◌+◌, Bool, not, ◌&&◌, ◌||◌, List, eqb, get_or}
use Rattle.memory.specs.Tests.{between}
use Rattle.kinds.specs.declared.Delimiters.{Delimiters}

-- the four that most analyzers name: | \ ^ & [R2]
abbrev pub standard : Delimiters
standard = record { field = 0x7c; repeat = 0x5c; component = 0x5e; escape = 0x26 }

-- the four that stand one behind the other from here on; 0 for a byte that is not there
abbrev pub four_at : ℕ → List ℕ → Delimiters
four_at at bs = record { field = get_or bs at 0; repeat = get_or bs (at + 1) 0; component = get_or bs (at + 2) 0; escape = get_or bs (at + 3) 0 }

-- those in force in a text: they stand behind its first byte [R2]
unfoldable pub delimiters_of : List ℕ → Delimiters
delimiters_of text = four_at 1 text

-- 0 to 9, A to Z, a to z
abbrev pub is_alphanumeric : ℕ → Bool
is_alphanumeric b = between 0x30 0x39 b || between 0x41 0x5a b || between 0x61 0x7a b

-- a byte that may be a delimiter: a mark of ASCII, 21 to 7E without digits and letters [R23]
unfoldable pub is_delimiter : ℕ → Bool
is_delimiter b = between 0x21 0x7e b && not (is_alphanumeric b)

-- the four are different bytes
unfoldable pub different : Delimiters → Bool
different d =
    not (eqb d.repeat d.field) && not (eqb d.component d.field) && not (eqb d.escape d.field)
    && not (eqb d.component d.repeat) && not (eqb d.escape d.repeat) && not (eqb d.escape d.component)

-- an allowed four: each may be a delimiter, and they are different [R23]
unfoldable pub are_delimiters : Delimiters → Bool
are_delimiters d = is_delimiter d.field && is_delimiter d.repeat && is_delimiter d.component && is_delimiter d.escape && different d

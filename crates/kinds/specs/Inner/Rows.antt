-- The rows of a table with one for each record type.
-- Assumes nothing.
use Rattle.std.specs.Prelude.{ℕ, [], ◌∷◌, get_or}
use Rattle.kinds.specs.declared.Kind.{Kind}
use Rattle.kinds.specs.declared.Kind.TheVariants.{Header, Patient, Order, Result, Query, Terminator, Comment, Manufacturer}

-- the row of a type in the table of followers
abbrev pub row_of : Kind → ℕ
row_of Header = 0
row_of Patient = 1
row_of Order = 2
row_of Result = 3
row_of Query = 4
row_of Terminator = 5
row_of Comment = 6
row_of Manufacturer = 7

-- and the type of a row
abbrev pub kind_at : ℕ → Kind
kind_at i = get_or (Header ∷ Patient ∷ Order ∷ Result ∷ Query ∷ Terminator ∷ Comment ∷ Manufacturer ∷ []) i Header

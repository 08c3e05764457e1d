-- The eight record types, and what may follow what.
-- Assumes nothing.
use Rattle.std.specs.Prelude.{ℕ, List, [], ◌∷◌, Bool, false, true, cond, ◌||◌, eqb, length, get_or, None, Option, Some}
use Rattle.memory.specs.Tests.{is}
use Rattle.kinds.specs.declared.Kind.{Kind}
use Rattle.kinds.specs.declared.Kind.TheVariants.{Header, Patient, Order, Result, Query, Terminator, Comment, Manufacturer}

-- H P O R Q L C M [R5]
abbrev pub letter_of : Kind → ℕ
letter_of Header = 0x48
letter_of Patient = 0x50
letter_of Order = 0x4f
letter_of Result = 0x52
letter_of Query = 0x51
letter_of Terminator = 0x4c
letter_of Comment = 0x43
letter_of Manufacturer = 0x4d

-- the type that a letter names [R5]
unfoldable pub kind_of : ℕ → Option Kind
kind_of b =
    cond (is (letter_of Header) b) (Some Header)
    (cond (is (letter_of Patient) b) (Some Patient)
    (cond (is (letter_of Order) b) (Some Order)
    (cond (is (letter_of Result) b) (Some Result)
    (cond (is (letter_of Query) b) (Some Query)
    (cond (is (letter_of Terminator) b) (Some Terminator)
    (cond (is (letter_of Comment) b) (Some Comment)
    (cond (is (letter_of Manufacturer) b) (Some Manufacturer) None)))))))

-- the type that a record's first field names: the field is exactly the letter [R5]
unfoldable pub type_of : List ℕ → Option Kind
type_of f = cond (eqb (length f) 1) (kind_of (get_or f 0 0)) None

-- the types that may follow a type, C and M passed over: behind H and P: P O Q L; behind O and R: O R P Q L; behind Q: Q P L; behind L: nothing.
-- C and M may follow any but L. They are passed over themselves, so their own rows are never asked. [R6, R7]
abbrev pub followers_of : Kind → List Kind
followers_of Header = Patient ∷ Order ∷ Query ∷ Terminator ∷ Comment ∷ Manufacturer ∷ []
followers_of Patient = Patient ∷ Order ∷ Query ∷ Terminator ∷ Comment ∷ Manufacturer ∷ []
followers_of Order = Order ∷ Result ∷ Patient ∷ Query ∷ Terminator ∷ Comment ∷ Manufacturer ∷ []
followers_of Result = Result ∷ Order ∷ Patient ∷ Query ∷ Terminator ∷ Comment ∷ Manufacturer ∷ []
followers_of Query = Query ∷ Patient ∷ Terminator ∷ Comment ∷ Manufacturer ∷ []
followers_of Terminator = []
followers_of Comment = []
followers_of Manufacturer = []

abbrev pub among : Kind → List Kind → Bool
among k [] = false
among k (x ∷ xs) = eqb (letter_of k) (letter_of x) || among k xs

-- k may stand where `other` is the last record that is neither C nor M [R6]
unfoldable pub may_follow : Kind → Kind → Bool
may_follow other k = among k (followers_of other)

-- the type is L
abbrev pub is_terminator : Kind → Bool
is_terminator Header = false
is_terminator Patient = false
is_terminator Order = false
is_terminator Result = false
is_terminator Query = false
is_terminator Terminator = true
is_terminator Comment = false
is_terminator Manufacturer = false

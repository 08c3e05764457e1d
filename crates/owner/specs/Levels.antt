-- The levels of records.
-- Assumes nothing.
use Rattle.std.specs.Prelude.{ℕ, suc, ◌-◌, ◌≡◌, ◌⊎◌, List, [], ◌∷◌, get_or, None, Option, Some}
use Rattle.kinds.specs.Kinds.{kind_of}
use Rattle.kinds.specs.declared.Kind.{Kind}
use Rattle.kinds.specs.declared.Kind.TheVariants.{Header, Patient, Order, Result, Query, Terminator, Comment, Manufacturer}

-- H and L stand at 0, P and Q at 1, O at 2, R at 3; C and M stand below the last other record, whose level is given [R12]
abbrev pub level_of : ℕ → Kind → ℕ
level_of other Header = 0
level_of other Patient = 1
level_of other Order = 2
level_of other Result = 3
level_of other Query = 1
level_of other Terminator = 0
level_of other Comment = suc other
level_of other Manufacturer = suc other

-- the same of what a letter names, and the level of the last other record behind it
abbrev pub level_by : ℕ → Option Kind → ℕ
level_by other (Some k) = level_of other k
level_by other None = 0

abbrev pub other_level : ℕ → Option Kind → ℕ
other_level other (Some Header) = 0
other_level other (Some Patient) = 1
other_level other (Some Order) = 2
other_level other (Some Result) = 3
other_level other (Some Query) = 1
other_level other (Some Terminator) = 0
other_level other (Some Comment) = other
other_level other (Some Manufacturer) = other
other_level other None = other

-- the levels of records with these types [R12]
abbrev pub levels_from : ℕ → List ℕ → List ℕ
levels_from other [] = []
levels_from other (b ∷ bs) = level_by other (kind_of b) ∷ levels_from (other_level other (kind_of b)) bs

unfoldable pub levels_of : List ℕ → List ℕ
levels_of ts = levels_from 0 ts

-- the level of the record with this number, counted from 1
abbrev pub level_at : List ℕ → ℕ → ℕ
level_at ts number = get_or (levels_of ts) (number - 1) 0

-- a record of this type stands one level below its owner; H and L have none, and an O may stand right under H
abbrev pub Below : (ℕ → ℕ) → Option Kind → ℕ → ℕ → Type 0
Below levelOfNumber (Some Header) level owner = owner ≡ 0
Below levelOfNumber (Some Patient) level owner = level ≡ suc (levelOfNumber owner)
Below levelOfNumber (Some Order) level owner = (level ≡ suc (levelOfNumber owner)) ⊎ (owner ≡ 1)
Below levelOfNumber (Some Result) level owner = level ≡ suc (levelOfNumber owner)
Below levelOfNumber (Some Query) level owner = level ≡ suc (levelOfNumber owner)
Below levelOfNumber (Some Terminator) level owner = owner ≡ 0
Below levelOfNumber (Some Comment) level owner = level ≡ suc (levelOfNumber owner)
Below levelOfNumber (Some Manufacturer) level owner = level ≡ suc (levelOfNumber owner)
Below levelOfNumber None level owner = ⊥

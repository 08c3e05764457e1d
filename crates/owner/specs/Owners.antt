-- Who owns each record of a message.
-- Assumes nothing.
use Rattle.kinds.specs.declared.Kind.{Kind}
use Rattle.std.specs.Prelude.{ℕ, ◌+◌, List, [], ◌∷◌, cond, eqb, get_or, None, Option, Some}
use Rattle.characters.specs.Control.{cr}
use Rattle.kinds.specs.Kinds.{kind_of}
use Rattle.kinds.specs.declared.Kind.TheVariants.{Header, Patient, Order, Result, Query, Terminator, Comment, Manufacturer}

-- a record's type is its first byte (an empty record, which no message has, would show its CR) [R14]
abbrev pub types_of : List (List ℕ) → List ℕ
types_of [] = []
types_of (r ∷ rs) = get_or r 0 cr ∷ types_of rs

-- the numbers, from 1, of the last P, the last O and the last record that is neither C nor M; 0 where none came
pub record Seen : Type 0 where
  pub patient : ℕ
  pub order : ℕ
  pub other : ℕ

abbrev pub unseen : Seen
unseen = record { patient = 0; order = 0; other = 0 }

-- H owns P and Q, and an O where no P came; else the last P owns it; the last O owns an R, the last other record a C and an M; H and L have no owner [R13]
abbrev pub owner_by : Seen → Option Kind → ℕ
owner_by s (Some Header) = 0
owner_by s (Some Patient) = 1
owner_by s (Some Order) = cond (eqb s.patient 0) 1 s.patient
owner_by s (Some Result) = s.order
owner_by s (Some Query) = 1
owner_by s (Some Terminator) = 0
owner_by s (Some Comment) = s.other
owner_by s (Some Manufacturer) = s.other
owner_by s None = 0

-- what was seen after record n of a type
abbrev pub seen_by : Seen → Option Kind → ℕ → Seen
seen_by s (Some Header) n = record { patient = s.patient; order = s.order; other = n }
seen_by s (Some Patient) n = record { patient = n; order = s.order; other = n }
seen_by s (Some Order) n = record { patient = s.patient; order = n; other = n }
seen_by s (Some Result) n = record { patient = s.patient; order = s.order; other = n }
seen_by s (Some Query) n = record { patient = s.patient; order = s.order; other = n }
seen_by s (Some Terminator) n = record { patient = s.patient; order = s.order; other = n }
seen_by s (Some Comment) n = s
seen_by s (Some Manufacturer) n = s
seen_by s None n = s

-- the owners of the records with these types, the first of them record n + 1
abbrev pub owners_by : Seen → ℕ → List ℕ → List ℕ
owners_by s n [] = []
owners_by s n (b ∷ bs) = owner_by s (kind_of b) ∷ owners_by (seen_by s (kind_of b) (n + 1)) (n + 1) bs

-- of all records of a message [R13]
unfoldable pub owners_of : List (List ℕ) → List ℕ
owners_of rs = owners_by unseen 0 (types_of rs)

-- Numbers packed into one, the first highest, over the list of their widths in bits; and a number as bytes, the highest first.
-- Assumes nothing.
use Rattle.std.specs.Prelude.{ℕ, ◌+◌, ◌*◌, ◌/◌, ◌%◌, ◌^◌, ◌≡◌, Bool, cond, ◌&&◌, List, [], ◌∷◌, length, replicate, leb, ltb, None, Option, Some}
use Rattle.memory.specs.Parts.{part, splice}

-- the bits of all packed fields together
abbrev pub width : List ℕ → ℕ
width [] = 0
width (w ∷ ws) = w + width ws

-- the number that has these packed fields [J2]
abbrev pub pack : List ℕ → List ℕ → ℕ
pack [] xs = 0
pack (w ∷ ws) [] = 0
pack (w ∷ ws) (x ∷ xs) = x * 2 ^ width ws + pack ws xs

-- the packed fields of a number [J2]
abbrev pub unpack : List ℕ → ℕ → List ℕ
unpack [] n = []
unpack (w ∷ ws) n = n / 2 ^ width ws % 2 ^ w ∷ unpack ws n

-- the widths of `size` bytes
abbrev pub octets : ℕ → List ℕ
octets size = replicate size 8

-- a packed field is at most 8 bytes long, so that its number fits 64 bits
abbrev pub longest_field : ℕ
longest_field = 8

-- `size` bytes at `at` are a packed field within d
abbrev pub is_field : List ℕ → ℕ → ℕ → Bool
is_field d at size = leb size longest_field && leb (at + size) (length d)

-- the packed field of `size` bytes at `at`, the highest byte first
unfoldable pub field_at : List ℕ → ℕ → ℕ → Option ℕ
field_at d at size = cond (is_field d at size) (Some (pack (octets size) (part d at size))) None

-- a number is written only into a packed field that holds it
abbrev pub holds : List ℕ → ℕ → ℕ → ℕ → Bool
holds d at size n = is_field d at size && ltb n (2 ^ width (octets size))

-- d after n is written to the packed field of `size` bytes at `at`: unchanged where the field does not hold it
unfoldable pub with_field : List ℕ → ℕ → ℕ → ℕ → List ℕ
with_field d at size n = cond (holds d at size n) (splice d at (unpack (octets size) n)) d

-- what writing a packed field says: whether it was done, and the memory after it
pub record FieldWritten (d : List ℕ) (at size n : ℕ) (r : Bool) (d' : List ℕ) : Type 0 where
  pub answer : r ≡ holds d at size n
  pub after : d' ≡ with_field d at size n

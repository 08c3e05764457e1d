-- The bytes that E1394 allows in a text, and the class of each byte.
-- Assumes nothing.
use Rattle.std.specs.Prelude.{ℕ, zero, suc, Bool, cond, not, ◌&&◌, ◌||◌, List, [], ◌∷◌}
use Rattle.memory.specs.Tests.{is, between}
use Rattle.characters.specs.Control.{cr}

-- 07, 09, 0B, 0C, 0D, 20 to 7E, 80 to FE [F5]
unfoldable pub allowed : ℕ → Bool
allowed b = is 0x07 b || is 0x09 b || is 0x0b b || is 0x0c b || is 0x0d b || between 0x20 0x7e b || between 0x80 0xfe b

-- allowed, and not the CR, which ends a record
unfoldable pub ordinary : ℕ → Bool
ordinary b = allowed b && not (is cr b)

-- the class of a byte: '+' where it is ordinary, '.' at CR, '-' where it is not allowed
abbrev pub plus : ℕ
plus = 0x2b

abbrev pub dot : ℕ
dot = 0x2e

abbrev pub dash : ℕ
dash = 0x2d

abbrev pub class_of : ℕ → ℕ
class_of b = cond (allowed b) (cond (is cr b) dot plus) dash

-- a class for each byte: the rule's values from i on
abbrev pub classes_from : ℕ → ℕ → List ℕ
classes_from i zero = []
classes_from i (suc n) = class_of i ∷ classes_from (suc i) n

-- and for all 256 [F5]
unfoldable pub class_table : List ℕ
class_table = classes_from 0 256

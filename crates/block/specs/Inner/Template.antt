-- How the code writes down what a block is laid out as: a mark for each byte.
-- Assumes nothing.
use Rattle.std.specs.Prelude.{ℕ, Bool, cond, ◌||◌, List, [], ◌∷◌}
use Rattle.memory.specs.Tests.{is}
use Rattle.block.specs.Places.{Place, fixed, datum, test}

-- '.' and '#', the marks of a byte of data and of a test byte
abbrev pub dot : ℕ
dot = 0x2e

abbrev pub hash : ℕ
hash = 0x23

-- a byte that stands for another
abbrev pub is_mark : ℕ → Bool
is_mark m = is hash m || is dot m

-- what a byte of a template stands for: itself, unless it is one of the two
unfoldable pub place_of : ℕ → Place
place_of m = cond (is hash m) test (cond (is dot m) datum (fixed m))

-- the places of a whole template
abbrev pub places_of_template : List ℕ → List Place
places_of_template [] = []
places_of_template (m ∷ ms) = place_of m ∷ places_of_template ms

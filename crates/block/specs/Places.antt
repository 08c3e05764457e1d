-- A byte of a strip reader's block, as its maker lays the block out.
-- Assumes nothing.
use Rattle.std.specs.Prelude.{ℕ, zero, suc, Bool, true, false, ◌&&◌, List, [], ◌∷◌}
use Rattle.memory.specs.Tests.{is, between}

-- this very byte, a byte of data, or one of the two test bytes
pub data Place : Type 0 where
  fixed : ℕ → Place
  datum : Place
  test : Place

-- a byte of data: 20 to 7D [B5]
abbrev pub is_datum : ℕ → Bool
is_datum b = between 0x20 0x7d b

-- whether a byte may stand at a place; the test bytes are tested apart
abbrev pub fits : Place → ℕ → Bool
fits (fixed c) b = is c b
fits datum b = is_datum b
fits test b = true

-- whether a block is laid out so: as many bytes, each where it may stand [B5]
abbrev pub matches : List Place → List ℕ → Bool
matches [] [] = true
matches [] (b ∷ bs) = false
matches (p ∷ ps) [] = false
matches (p ∷ ps) (b ∷ bs) = fits p b && matches ps bs

-- so many bytes of data, so many spaces, and these very bytes
abbrev pub some_data : ℕ → List Place
some_data zero = []
some_data (suc n) = datum ∷ some_data n

abbrev pub spaces : ℕ → List Place
spaces zero = []
spaces (suc n) = fixed 0x20 ∷ spaces n

abbrev pub letters : List ℕ → List Place
letters [] = []
letters (b ∷ bs) = fixed b ∷ letters bs

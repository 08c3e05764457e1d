-- The numbers of frames, one behind the other, as rule F4 has them.
-- Assumes nothing.
use Rattle.std.proofs.Common.{◌≡◌, [], ◌∷◌, map, refl}
use Rattle.digits.specs.Number.{next_number}

-- the numbers run 1, 2, .. 7, 0, 1
pub numbers_run : map next_number (0 ∷ 1 ∷ 2 ∷ 3 ∷ 4 ∷ 5 ∷ 6 ∷ 7 ∷ []) ≡ 1 ∷ 2 ∷ 3 ∷ 4 ∷ 5 ∷ 6 ∷ 7 ∷ 0 ∷ []
unfolding next_number
numbers_run = refl

-- The control blocks that we send, and the writing of one into lent memory.
-- Assumes nothing.
use Rattle.std.specs.Prelude.{ℕ, ◌≡◌, cond, List, [], ◌∷◌, Option, Some, None}
use Rattle.memory.specs.Moves.{fits_at, copied}
use Rattle.characters.specs.Control.{stx, etx, cr}
use Rattle.block.specs.Judged.{control_length, test_byte, high_test, low_test}

-- the bytes of the control block with a code [B4]
unfoldable pub control_bytes : ℕ → List ℕ
control_bytes code =
    let t = test_byte (stx ∷ code ∷ etx ∷ []) in
    stx ∷ code ∷ etx ∷ high_test t ∷ low_test t ∷ cr ∷ []

-- what writing one says: its length, or nothing where it does not fit; and the memory, with the block over its start or unchanged
pub record ControlPut (code : ℕ) (out : List ℕ) (r : Option ℕ) (out' : List ℕ) : Type 0 where
  pub answer : r ≡ cond (fits_at out 0 (control_bytes code)) (Some control_length) None
  pub after : out' ≡ copied out 0 (control_bytes code)

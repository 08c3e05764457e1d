-- What the laws say of pieces: their bytes, their sizes, and which of them go on.
-- Assumes nothing.
use Rattle.std.specs.Prelude.{ℕ, Bool, true, false, ◌&&◌, List, [], ◌∷◌, ◌++◌, length}
use Rattle.memory.specs.Tests.{between}
use Rattle.frame.specs.Piece.{Piece}
use Rattle.frame.specs.declared.End.{End}
use Rattle.frame.specs.declared.End.TheVariants.{Etb, Etx}

-- the bytes of pieces, joined
abbrev pub bytes_of : List Piece → List ℕ
bytes_of [] = []
bytes_of (p ∷ ps) = p.bytes ++ bytes_of ps

-- every piece passes the test
abbrev pub every : (Piece → Bool) → List Piece → Bool
every t [] = true
every t (p ∷ ps) = t p && every t ps

-- a piece is not empty and at most `size` long
abbrev pub is_sized : ℕ → Piece → Bool
is_sized size p = between 1 size (length p.bytes)

-- more of the piece's record follows
abbrev pub is_etb : End → Bool
is_etb Etb = true
is_etb Etx = false

abbrev pub goes_on : Piece → Bool
goes_on p = is_etb p.end

-- Frames one behind the other.
-- Assumes nothing.
use Rattle.std.specs.Prelude.{ℕ, List, [], ◌∷◌, ◌++◌}
use Rattle.digits.specs.Number.{next_number}
use Rattle.frame.specs.Piece.{Piece}
use Rattle.framing.specs.Writing.{frame_of}

-- a frame for each piece, the first with this number; the numbers run on over the records [C3]
abbrev pub frames_from : ℕ → List Piece → List ℕ
frames_from number [] = []
frames_from number (p ∷ ps) = frame_of number p.end p.bytes ++ frames_from (next_number number) ps

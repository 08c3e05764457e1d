-- A piece of a text, as one frame carries it.
-- Assumes nothing.
use Rattle.std.specs.Prelude.{ℕ, List}
use Rattle.frame.specs.declared.End.{End}

-- a piece: what ends its frame's text, and that text
pub record Piece : Type 0 where
  pub end : End
  pub bytes : List ℕ

abbrev pub piece : End → List ℕ → Piece
piece end bytes = record { end = end; bytes = bytes }

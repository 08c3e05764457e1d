-- The pieces that a text is cut into, each the text of one frame: record by record, each record in chunks that fit a frame.
-- Assumes nothing.
use Rattle.std.specs.Prelude.{ℕ, zero, suc, ◌-◌, cond, List, [], ◌∷◌, ◌++◌, length, get_or, take, drop}
use Rattle.memory.specs.Tests.{is}
use Rattle.characters.specs.Control.{cr}
use Rattle.frame.specs.Shape.{around_text}
use Rattle.frame.specs.Piece.{Piece, piece}
use Rattle.frame.specs.declared.End.{End}
use Rattle.frame.specs.declared.End.TheVariants.{Etb, Etx}
use Rattle.records.specs.Records.{onto}

-- the bytes of a frame's text within a limit: 240 of 247 [C2]
abbrev pub piece_size : ℕ → ℕ
piece_size limit = limit - around_text

-- the records of a text, each with its CR; bytes behind the last CR count as a record too
abbrev pub records_with_cr : List ℕ → List (List ℕ)
records_with_cr [] = []
records_with_cr (b ∷ bs) = cond (is cr b) ((b ∷ []) ∷ records_with_cr bs) (onto b (records_with_cr bs))

-- bytes in chunks of `size`, the last perhaps shorter; `most` bounds how many, and no text has more chunks than bytes
abbrev pub chunks_within : ℕ → ℕ → List ℕ → List (List ℕ)
chunks_within zero size bs = []
chunks_within (suc most) size [] = []
chunks_within (suc most) size (b ∷ bs) = take size (b ∷ bs) ∷ chunks_within most size (drop size (b ∷ bs))

abbrev pub chunks : ℕ → List ℕ → List (List ℕ)
chunks size bs = chunks_within (length bs) size bs

-- chunks as pieces: all but the last end with ETB, and the last with this end
abbrev pub ended : End → List (List ℕ) → List Piece
ended end [] = []
ended end (c ∷ []) = piece end c ∷ []
ended end (c ∷ next ∷ cs) = piece Etb c ∷ ended end (next ∷ cs)

-- what ends a piece whose last byte is b: ETX where it is the CR of a record
abbrev pub end_after : ℕ → End
end_after b = cond (is cr b) Etx Etb

-- the pieces of a record with its CR: the last ends with ETX
abbrev pub cut_record : ℕ → List ℕ → List Piece
cut_record size r = ended (end_after (get_or r (length r - 1) 0)) (chunks size r)

abbrev pub cut_all : ℕ → List (List ℕ) → List Piece
cut_all size [] = []
cut_all size (r ∷ rs) = cut_record size r ++ cut_all size rs

-- the pieces of a text, for frames within a limit [C2]
unfoldable pub pieces_of : ℕ → List ℕ → List Piece
pieces_of limit text = cut_all (piece_size limit) (records_with_cr text)

-- the bytes through the first CR, or all where there is none
abbrev pub through_cr : List ℕ → ℕ
through_cr [] = 0
through_cr (b ∷ bs) = cond (is cr b) 1 (suc (through_cr bs))

-- the first n bytes of a text as a piece
abbrev pub first_piece : ℕ → List ℕ → Piece
first_piece n text = piece (end_after (get_or text (n - 1) 0)) (take n text)

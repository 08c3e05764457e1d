-- The piece at a place of the text that is sent, and what lies behind it.
-- Assumes nothing.
use mathlib.Core.Path.{◌≡◌, ap, ◌∙◌}
use mathlib.Core.List.{List, [], ◌∷◌, ◌++◌}
use Prim.Native.Nat.{ℕ, ◌+◌, ◌-◌, ◌≤◌, ◌<◌}
use native.Mathlib.Omega.{arith}
use lib.ListN.{length, take, drop, length-drop, length-take, drop_of_length-le}
use lib.Seq.{drop-drop}
use Rattle.digits.specs.Number.{next_number}
use Rattle.frame.specs.Shape.{around_text}
use Rattle.framing.specs.Frames.{frames_from}
use Rattle.pieces.specs.Pieces.{piece_size, pieces_of}
use Rattle.pieces.proofs.Laws.{no_pieces}
use Rattle.pieces.proofs.Steps.{through_most, through_some, first_piece_law}
use Rattle.sending.specs.Onward.{piece_at}
use Rattle.sending.specs.Offered.{piece_from, frame_at}

module _ (limit at : ℕ) (text : List ℕ) where
  -- the piece at a place has no more bytes than the text has from there on
  pub piece_most : piece_at limit at text ≤ length text - at
  piece_most =
      let most = through_most (take (piece_size limit) (drop at text)) in
      let taken = length-take (piece_size limit) (drop at text) in
      let left = length-drop at text in
      omega arith

  -- nor than a frame holds
  pub piece_short : piece_at limit at text ≤ piece_size limit
  piece_short =
      let most = through_most (take (piece_size limit) (drop at text)) in
      let taken = length-take (piece_size limit) (drop at text) in
      omega arith

  -- behind the text's end there is none
  pub pieces_past : length text ≤ at → pieces_of limit (drop at text) ≡ []
  pieces_past past = ap (pieces_of limit) (drop_of_length-le text past) ∙ no_pieces limit

  module _ (h : around_text < limit) (k : at < length text) where
    -- where the text has a byte there and a frame holds one, it has one at least, and ends within the text
    pub piece_some : 1 ≤ piece_at limit at text
    piece_some =
        let taken = length-take (piece_size limit) (drop at text) in
        let left = length-drop at text in
        through_some (take (piece_size limit) (drop at text)) (omega arith)

    pub piece_within : at + piece_at limit at text ≤ length text
    piece_within = omega (arith, piece_most)

    -- it is the first of the pieces from there on
    pub piece_first : pieces_of limit (drop at text) ≡ piece_from limit at text ∷ pieces_of limit (drop (at + piece_at limit at text) text)
    unfolding pieces_of
    piece_first =
        let left = length-drop at text in
        first_piece_law (piece_size limit) (omega arith) (drop at text) (omega arith)
        ∙ ap (λ (t : List ℕ). piece_from limit at text ∷ pieces_of limit t) (drop-drop (piece_at limit at text) at text)

    -- so the frame offered there is the first of those that the rest of the text is cut into
    pub offered_cut : (number : ℕ)
        → frames_from number (pieces_of limit (drop at text))
        ≡ frame_at limit number at text ++ frames_from (next_number number) (pieces_of limit (drop (at + piece_at limit at text) text))
    offered_cut number = ap (frames_from number) piece_first

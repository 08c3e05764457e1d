-- `sending::replies::piece_at` meets its contract.
-- Assumes nothing.
use mathlib.Core.Path.{ap, ◌∙◌}
use mathlib.Core.List.{List}
use Prim.Native.Nat.{ℕ}
use lib.ListN.{take}
use Rattle.pieces.specs.Pieces.{piece_size, through_cr}
use Rattle.sending.proofs.replies.piece_at.Goals as goal

pub returns : goal.returns
returns c =
    let limit = c.args.limit in
    c.first_piece.ensures ∙ ap (λ (t : List ℕ). through_cr (take (piece_size limit) t)) c.rest_from.ensures

-- `sending::replies::next_frame` meets its contract.
-- Assumes nothing.
use mathlib.Core.Path.{◌∙◌}
use native.Mathlib.Omega.{arith}
use Rattle.sending.proofs.Pieces.{piece_most}
use Rattle.sending.proofs.replies.next_frame.Goals as goal

pub overflow_add-at : goal.overflow_add-at
overflow_add-at c =
    let a = c.args in
    omega (arith, c.piece_at-n.ensures, piece_most a.limit a.at a.text.now)

pub returns : goal.returns
returns c = c.offer_at.ensures ∙ simp (c.piece_at-n.ensures, c.next_number-number.ensures)

-- `sending::offering::put_piece` meets its contract: the rest of the text is cut to its first piece.
-- Assumes nothing.
use mathlib.Core.Path.{sym}
use Prim.Native.Nat.{◌≤◌}
use native.Mathlib.Omega.{arith}
use lib.ListN.{length}
use lib.Seq.{length-take-le}
use Rattle.sending.proofs.Pieces.{piece_most}
use Rattle.sending.proofs.Offered.{piece_put}
use Rattle.sending.proofs.offering.put_piece.Goals as goal

pub slice_bounds-put_frame-end : goal.slice_bounds-put_frame-end
slice_bounds-put_frame-end c =
    let rest = c.rest_from-rest.result.now in
    let within : c.first_piece-n.result ≤ length rest = omega (arith, c.first_piece-n.ensures, piece_most c.args.limit 0 rest) in
    sym (length-take-le c.first_piece-n.result rest within)

pub returns : goal.returns
returns c =
    let a = c.args in
    piece_put a.limit a.at a.number a.text.now a.out.now c.rest_from-rest.ensures c.first_piece-n.ensures
    c.end_of-end.ensures c.put_frame.ensures

-- `cutting::measuring::piece_length` meets its contract: the bytes from n on decide, and there is one at n.
-- Assumes nothing.
use mathlib.Core.Path.{◌≡◌, ◌∙◌}
use Prim.Native.Nat.{◌-◌}
use native.Mathlib.Nat.{zero-add}
use native.Mathlib.Omega.{arith}
use Rattle.pieces.specs.Pieces.{piece_size}
use Rattle.pieces.proofs.Steps.{ended_some, ended_next, through_stop, through_next, through_all}
use Rattle.cutting.proofs.measuring.piece_length.Goals as goal

pub loop-n-init : goal.loop-n-init
loop-n-init c =
    let whole : piece_size c.args.limit - 0 ≡ piece_size c.args.limit = omega arith in
    record { byte_left = ended_some c.args.text.now c.requires.1; n_within = omega arith; goes_on = rw (whole, zero-add) }

pub returns-then-text-n-eq-CR : goal.returns-then-text-n-eq-CR
returns-then-text-n-eq-CR c =
    let a = c.args in
    let l = c.loop-n in
    through_stop a.text.now (piece_size a.limit) l.n (omega arith) l.invariant.byte_left c.if-text-n-eq-CR.true l.invariant.goes_on

pub loop-n-preserved : goal.loop-n-preserved
loop-n-preserved c =
    let l = c.loop-n in
    let text = c.args.text.now in record {
      byte_left = ended_next text l.n c.requires.1 l.invariant.byte_left c.if-text-n-eq-CR.false;
      n_within = omega arith;
      goes_on = through_next text (piece_size c.args.limit) l.n (omega arith) l.invariant.byte_left c.if-text-n-eq-CR.false l.invariant.goes_on;
    }

pub returns : goal.returns
returns c =
    let a = c.args in
    let l = c.loop-n in
    let end : piece_size a.limit ≡ l.n = omega arith in
    end ∙ through_all a.text.now (piece_size a.limit) l.n (omega arith) l.invariant.goes_on

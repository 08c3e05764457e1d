-- `framing::writing::lay_tail` meets its contract.
-- Assumes nothing.
use Rattle.std.proofs.Common.{arith, length-set}
use Rattle.framing.proofs.Put.{put_four}
use Rattle.framing.proofs.writing.lay_tail.Goals as goal

pub returns : goal.returns
returns c =
    let a = c.args in
    rw c.check_digits-digits.ensures (put_four a.out.now a.at _ _ _ _ (omega arith))

pub bounds-out-at-2 : goal.bounds-out-at-2
bounds-out-at-2 c = simp length-set (omega arith)

pub bounds-out-at-3 : goal.bounds-out-at-3
bounds-out-at-3 c = simp length-set (omega arith)

pub bounds-out-at-4 : goal.bounds-out-at-4
bounds-out-at-4 c = simp length-set (omega arith)

pub shape_of-out : goal.shape_of-out
shape_of-out c = simp length-set

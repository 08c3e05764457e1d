-- `decimal::writing::put_two` meets its contract.
-- Assumes nothing.
use native.Mathlib.Omega.{arith}
use lib.ListN.{length-set}
use Rattle.decimal.proofs.Stores.{put_two}
use Rattle.decimal.proofs.writing.put_two.Goals as goal

pub returns : goal.returns
returns c = rw (c.digit-2.ensures, c.digit.ensures) (put_two c.args.out.now c.args.at _ _ c.requires.1)

pub bounds-out-at-2 : goal.bounds-out-at-2
bounds-out-at-2 c = simp length-set (omega (arith, c.requires))

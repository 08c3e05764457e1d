-- `memory::copy` meets its contract.
-- Assumes nothing.
use native.Mathlib.Omega.{arith}
use Rattle.memory.proofs.Moves.{copied_no, laid}
use Rattle.memory.proofs.copy.Goals as goal

pub returns-then-dst-src : goal.returns-then-dst-src
returns-then-dst-src c = copied_no c.args.dst.now 0 c.args.src.now (omega arith)

pub returns : goal.returns
returns c = search (arith, laid)

-- `keeping::keep` meets its contract.
-- Assumes nothing.
use Rattle.keeping.proofs.Walks.{Kept}
use Rattle.keeping.proofs.keep.Given as goal

abbrev pub invariant-loop-k : goal.invariant-loop-k
invariant-loop-k l = Kept l.initial.numbers l.i l.block l.numbers l.k

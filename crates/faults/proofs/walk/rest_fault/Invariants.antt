-- `faults::walk::rest_fault` meets its contract: at each record what is left decides, and the first that is wrong ends it.
-- Assumes nothing.
use Prim.Native.Nat.{◌+◌, ◌-◌}
use lib.ListN.{length}
use Rattle.faults.proofs.Walked.{Walks}
use Rattle.faults.proofs.walk.rest_fault.Given as goal

abbrev pub invariant-loop-at : goal.invariant-loop-at
invariant-loop-at l = Walks l.d l.initial.s l.text l.start l.s l.at l.place

abbrev pub decreases-loop-at : goal.decreases-loop-at
decreases-loop-at l = length l.text + 1 - l.at

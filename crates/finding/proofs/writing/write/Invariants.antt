-- `finding::writing::write` meets its contract: turn by turn a byte of the template is written, or the datum that takes its place.
-- Assumes nothing.
use Rattle.finding.proofs.Fills.{Filling}
use Rattle.finding.proofs.writing.write.Given as goal

abbrev pub invariant-loop-b : goal.invariant-loop-b
invariant-loop-b l = Filling l.patient l.block l.initial.out l.out l.end l.k l.b-index

-- `message::whole::count_on` meets its contract: what each type's stores leave is what it counts.
-- Assumes nothing.
use Rattle.message.proofs.Tallies.{counted_patient, counted_order, counted_other}
use Rattle.message.proofs.whole.count_on.Goals.{in-Patient, in-Order, in_default}
use Rattle.message.proofs.whole.count_on.Goals as goal

pub returns : goal.returns
returns c = let a = c.args in elim c.match-k.branch [
  | in-Patient w ↦ rw w.counts-is (counted_patient a.other a.counts.now a.n c.requires.1 a.k c.requires.0 w.in-Patient.is)
  | in-Order w ↦ rw w.counts-is (counted_order a.other a.counts.now a.n c.requires.1 a.k c.requires.0 w.in-Order.is)
  | in_default w ↦ rw w.counts-is (counted_other a.other a.counts.now a.n c.requires.1 a.k c.requires.0 w.in_default.not-Comment w.in_default.not-Manufacturer w.in_default.not-Patient w.in_default.not-Order)
]

-- `message::whole::number_at` meets its contract: what it has passed are digits of the field, which b or CR ends.
-- Assumes nothing.
use Rattle.sequence.proofs.Decimal.{Read}
use Rattle.message.proofs.Starting.{field_at}
use Rattle.message.proofs.whole.number_at.Given as goal

abbrev pub invariant-loop-i : goal.invariant-loop-i
invariant-loop-i l = Read (field_at l.b l.text) l.n l.i

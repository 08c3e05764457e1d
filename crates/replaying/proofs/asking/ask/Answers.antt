-- `replaying::asking::ask` meets its contract.
-- Assumes nothing.
use Rattle.std.proofs.Common.{refl, arith}
use Rattle.replaying.specs.Lents.{desk}
use Rattle.replaying.proofs.Ways.{asks_event, asks_taking}
use Rattle.replaying.proofs.asking.ask.Goals as goal

pub returns-in-Byte-clause-asked : goal.returns-in-Byte-clause-asked
returns-in-Byte-clause-asked c =
    let a = c.args in
    rw c.in-Event.is (asks_event (desk a.lent.now) c.in-Event.e c.in-Byte.is c.byte.ensures)

pub returns-in-Seconds-clause-asked : goal.returns-in-Seconds-clause-asked
returns-in-Seconds-clause-asked c =
    let a = c.args in
    rw c.in-Event.is (asks_event (desk a.lent.now) c.in-Event.e c.in-Seconds.is c.seconds.ensures)

pub returns-in-Taking-clause-asked : goal.returns-in-Taking-clause-asked
returns-in-Taking-clause-asked c =
    let a = c.args in
    rw c.in-Taking.is (asks_taking (desk a.lent.now) c.in-Taking.line c.in-Taking.size (omega arith) c.take.ensures refl)

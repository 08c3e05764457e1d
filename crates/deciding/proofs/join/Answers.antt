-- `deciding::join` meets its contract: the place starts with both pieces, where they fit.
-- Assumes nothing.
use Rattle.deciding.proofs.Joined.{first_over, first_in}
use Rattle.deciding.proofs.join.Goals as goal

pub returns-else-copy : goal.returns-else-copy
returns-else-copy c =
    let a = c.args in
    rw c.if-copy.false (first_over a.place.now a.old.now a.new.now _ c.copy.ensures c.if-copy.false)

pub returns-then-copy : goal.returns-then-copy
returns-then-copy c =
    let a = c.args in
    first_in a.place.now a.old.now a.new.now _ _ _ _ c.copy.ensures (c.if-copy.true) c.copy_at.ensures

-- `listing::rows::last_size` meets its contract.
-- Assumes nothing.
use Rattle.std.proofs.Common.{rules}
use Rattle.listing.proofs.Columns.{last_taken, last_reply}
use Rattle.listing.proofs.rows.last_size.Goals as goal

pub returns-then-number-eq-TAKEN : goal.returns-then-number-eq-TAKEN
returns-then-number-eq-TAKEN c = let a = c.args in rw (last_taken a.number a.taken c.if-number-eq-TAKEN.true) c.size.ensures

pub returns : goal.returns
returns c = let a = c.args in rw (last_reply a.number a.taken c.if-number-eq-TAKEN.false) (search rules)

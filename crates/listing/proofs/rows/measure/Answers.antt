-- `listing::rows::measure` meets its contract.
-- Assumes nothing.
use Rattle.std.proofs.Common.{arith}
use Rattle.listing.proofs.Columns.{length_row}
use Rattle.listing.proofs.rows.measure.Goals as goal

pub returns : goal.returns
returns c =
    let a = c.args in
    omega (arith, length_row a.event a.line a.number a.taken, c.size.ensures.0, c.size-2.ensures.0, c.size-3.ensures.0, c.last_size.ensures.0)

-- `numbers::plain::last_of` meets its contract.
-- Assumes nothing.
use Rattle.numbers.proofs.Numbers.{last_some}
use Rattle.numbers.proofs.plain.last_of.Goals as goal

pub returns : goal.returns
returns c = last_some c.args.n c.if-n-eq0.false

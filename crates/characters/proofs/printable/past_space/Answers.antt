-- `characters::printable::past_space` meets its contract.
-- Assumes nothing.
use Rattle.std.proofs.Common.{sym, ap, rules}
use Rattle.characters.specs.Inner.Printable.{printable}
use Rattle.characters.proofs.PrintableBytes.{printable_past}
use Rattle.characters.proofs.printable.past_space.Goals as goal

pub returns-then-b-eq-CR : goal.returns-then-b-eq-CR
unfolding printable
returns-then-b-eq-CR c = sym (ap printable c.if-b-eq-CR.true)

pub returns : goal.returns
returns c = printable_past c.args.b (search rules) c.if-b-eq-CR.false

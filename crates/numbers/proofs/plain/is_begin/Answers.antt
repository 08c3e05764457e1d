-- `numbers::plain::is_begin` meets its contract.
-- Assumes nothing.
use borrow.Author.Rules.{rules}
use borrow.Author.Tests.{eq-eqb, ne_eqb}
use Rattle.numbers.proofs.plain.is_begin.Goals as goal

pub returns-then-b-ne-STX : goal.returns-then-b-ne-STX
returns-then-b-ne-STX c = rw (c.in-Byte.is, ne_eqb _ _ c.if-b-ne-STX.true)

pub returns-else-b-ne-STX : goal.returns-else-b-ne-STX
returns-else-b-ne-STX c = rw (c.in-Byte.is, eq-eqb _ _ c.if-b-ne-STX.false) (search rules)

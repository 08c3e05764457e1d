-- `escaping::with_escapes::letter_of` meets its contract.
-- Assumes nothing.
use borrow.Author.Rules.{rules}
use Rattle.escaping.proofs.with_escapes.letter_of.Goals as goal

pub returns : goal.returns
returns c = λ d table. table.letter c.args.b (search rules)

-- `escaping::with_escapes::width_of` meets its contract: a byte that stands for itself is one byte, an escape is three.
-- Assumes nothing.
use mathlib.Core.Path.{sym, ap, ◌∙◌}
use lib.ListN.{length}
use Rattle.escaping.proofs.Escapes.{escape_one, escape_three}
use Rattle.escaping.proofs.with_escapes.width_of.Goals as goal

pub returns-then-letter_of-eq0 : goal.returns-then-letter_of-eq0
returns-then-letter_of-eq0 c = λ d table. sym (ap length (escape_one d c.args.b (sym (c.letter_of.ensures d table) ∙ c.if-letter_of-eq0.true)))

pub returns-else-letter_of-eq0 : goal.returns-else-letter_of-eq0
returns-else-letter_of-eq0 c = λ d table. sym (ap length (escape_three d c.args.b (λ e. c.if-letter_of-eq0.false (c.letter_of.ensures d table ∙ e))))

-- `records::last::ending_in` meets its contract: each answer under the tests that led to it.
-- Assumes nothing.
use mathlib.Core.Path.{sym, ◌∙◌}
use mathlib.Core.Bool.{true, false}
use Rattle.records.proofs.TwoPieces.{open_ending, closed_ending}
use Rattle.records.proofs.last.ending_in.Goals as goal

pub returns-then-new-ne-CR : goal.returns-then-new-ne-CR
returns-then-new-ne-CR c = sym (open_ending c.args.old.now c.args.new.now c.requires c.if-new-ne-CR.true)

pub returns-then-begins_with_l : goal.returns-then-begins_with_l
returns-then-begins_with_l c = sym (closed_ending c.args.old.now c.args.new.now c.requires c.if-new-ne-CR.false true (sym c.if-begins_with_l.true ∙ c.begins_with_l.ensures))

pub returns : goal.returns
returns c = sym (closed_ending c.args.old.now c.args.new.now c.requires c.if-new-ne-CR.false false (sym c.if-begins_with_l.false ∙ c.begins_with_l.ensures))

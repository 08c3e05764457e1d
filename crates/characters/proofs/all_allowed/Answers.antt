-- `characters::all_allowed` meets its contract. The loop's invariant: the bytes that are still to come decide.
-- Assumes nothing.
use Rattle.std.proofs.Common.{sym, ◌∙◌, arith}
use Rattle.memory.proofs.Tests.{all_stop, all_next, all_done}
use Rattle.characters.specs.Allowed.{allowed}
use Rattle.characters.proofs.PrintableBytes.{all_printable}
use Rattle.characters.proofs.all_allowed.Goals as goal

pub returns-then-is_printable : goal.returns-then-is_printable
returns-then-is_printable c = sym (all_printable c.args.text.now (sym c.is_printable.ensures ∙ c.if-is_printable.true))

pub returns-then-not-is_marked : goal.returns-then-not-is_marked
returns-then-not-is_marked c =
    all_stop allowed c.args.text.now c.loop-b.b-index (omega arith)
    (sym (c.is_marked.ensures.1 c.classes-table.ensures) ∙ c.if-not-is_marked.true) c.loop-b.invariant

pub loop-b-preserved : goal.loop-b-preserved
loop-b-preserved c =
    all_next allowed c.args.text.now c.loop-b.b-index (omega arith)
    (sym (c.is_marked.ensures.1 c.classes-table.ensures) ∙ c.if-not-is_marked.false) c.loop-b.invariant

pub returns : goal.returns
returns c = all_done allowed c.args.text.now c.loop-b.b-index (omega arith) c.loop-b.invariant

-- `looking::states::look_reply` meets its contract.
-- Assumes nothing.
use mathlib.Core.Path.{ap, ◌∙◌}
use native.Mathlib.Omega.{arith}
use Rattle.memory.proofs.Parts.{part_lent}
use Rattle.line.proofs.Limits.{within_facts}
use Rattle.looking.specs.Views.{text_start}
use Rattle.looking.specs.Looks.{onward_look}
use Rattle.looking.proofs.Views.{text_lent}
use Rattle.looking.proofs.states.look_reply.Goals as goal

pub slice_bounds-on_byte-end : goal.slice_bounds-on_byte-end
slice_bounds-on_byte-end c = omega (arith, within_facts c.args.line c.requires.1, c.requires)

pub returns : goal.returns
returns c =
    let a = c.args in
    rw (← text_lent a.line a.i a.unfinished.now c.requires.1, ← part_lent a.unfinished.now (text_start a.i) a.line.joined)
    (c.look_onward.ensures ∙ ap onward_look c.on_byte.ensures)

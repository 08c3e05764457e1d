-- `orders::fetching::fetch` meets its contract.
-- Assumes nothing.
use mathlib.Core.Path.{◌∙◌}
use native.Mathlib.Omega.{arith}
use Rattle.memory.proofs.Parts.{part_lent}
use Rattle.line.proofs.Limits.{within_facts}
use Rattle.looking.specs.Views.{text_start}
use Rattle.looking.proofs.Views.{text_lent}
use Rattle.orders.proofs.Ways.{put_out}
use Rattle.orders.proofs.fetching.fetch.Goals as goal

pub slice_bounds-put_offered-end : goal.slice_bounds-put_offered-end
slice_bounds-put_offered-end c = omega (arith, within_facts c.args.line c.requires.1, c.requires)

pub returns : goal.returns
returns c =
    let a = c.args in
    put_out a.line a.i a.unfinished.now a.out.now c.requires.1
    (part_lent a.unfinished.now (text_start a.i) a.line.joined ∙ text_lent a.line a.i a.unfinished.now c.requires.1) c.put_offered-written.ensures c.made.ensures

-- `records::ends::count` meets its contract: the CRs of the blocks that are counted, with those still to come, are all.
-- Assumes nothing.
use mathlib.Core.Path.{◌∙◌}
use native.Mathlib.Omega.{arith}
use Rattle.memory.specs.Tests.{is}
use Rattle.characters.specs.Control.{cr}
use Rattle.records.proofs.RecordCount.{count_le, count_block}
use Rattle.records.proofs.ends.count.Goals as goal

pub loop-block-init : goal.loop-block-init
loop-block-init c =
    let made = c.chunks-block-items.ensures in
    rw c.into_iter-block-iterator.ensures.into_iter_gives (made.size, rw made.rest (omega arith))

pub overflow_add-n : goal.overflow_add-n
overflow_add-n c =
    let more = count_block (is cr) c.loop-block.n c.count_block.result c.in-Some.block.now c.next.new.self.rest.now c.loop-block.invariant.1 c.in-Some.ensures.steps.1.0 c.count_block.ensures in
    omega (arith, more, count_le (is cr) c.args.text.now, c.well_formed)

pub loop-block-preserved : goal.loop-block-preserved
loop-block-preserved c = (
  c.in-Some.ensures.steps.0 ∙ c.loop-block.invariant.0,
  count_block (is cr) c.loop-block.n c.count_block.result c.in-Some.block.now c.next.new.self.rest.now c.loop-block.invariant.1 c.in-Some.ensures.steps.1.0 c.count_block.ensures,
)

pub returns : goal.returns
returns c = omega (arith, c.loop-block.invariant.1, count_le (is cr) c.loop-block.block-iterator.rest.now, c.in-None.ensures.steps.1.0)

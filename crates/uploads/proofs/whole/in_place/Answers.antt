-- `uploads::whole::in_place` meets its contract.
-- Assumes nothing.
use native.Mathlib.Omega.{arith}
use lib.ListN.{length-take}
use Rattle.uploads.specs.Inner.Ruled.{Room}
use Rattle.uploads.proofs.Readings.{reading_room}
use Rattle.uploads.proofs.whole.in_place.Goals as goal

pub gather-requires : goal.gather-requires
gather-requires c =
    let own_room : Room c.args.line c.args.i c.args.lent.now.frames.now = let a = c.args in reading_room a.lent.now.numbers.now a.lent.now.frames.now a.patient a.line a.i c.requires.1 in
    (c.requires.0, own_room)

pub slice_bounds-by_block-end : goal.slice_bounds-by_block-end
slice_bounds-by_block-end c =
    let own_room : Room c.args.line c.args.i c.args.lent.now.frames.now = let a = c.args in reading_room a.lent.now.numbers.now a.lent.now.frames.now a.patient a.line a.i c.requires.1 in
    omega (arith, c.gather.ensures.0, own_room.few)

pub slice_bounds-by_block-end-2 : goal.slice_bounds-by_block-end-2
slice_bounds-by_block-end-2 c =
    let own_room : Room c.args.line c.args.i c.args.lent.now.frames.now = let a = c.args in reading_room a.lent.now.numbers.now a.lent.now.frames.now a.patient a.line a.i c.requires.1 in
    simp length-take (omega (arith, c.gather.ensures.0, own_room.few))

pub returns-clause-ruled : goal.returns-clause-ruled
returns-clause-ruled c = rw c.gather.ensures.1 at c.by_block.ensures.ruled

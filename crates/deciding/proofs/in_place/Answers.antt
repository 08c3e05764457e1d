-- `deciding::in_place` meets its contract: what does not fit in the place is no message, and what fits is decided there.
-- Assumes nothing.
use native.Mathlib.Omega.{arith}
use lib.ListN.{length-take}
use Prim.Native.Nat.{◌<◌}
use mathlib.Core.List.{◌++◌}
use lib.ListN.{length}
use Rattle.memory.specs.Sizes.{message_limit}
use Rattle.deciding.proofs.Decisions.{decided_as, too_long}
use Rattle.deciding.proofs.Joined.{joined_fits, joined_over}
use Rattle.deciding.proofs.in_place.Goals as goal

pub returns-then-not-join : goal.returns-then-not-join
returns-then-not-join c =
    let a = c.args in
    let over : message_limit < length (a.old.now ++ a.new.now) = omega (arith, joined_over a.place.now a.old.now a.new.now c.join.ensures (c.if-not-join.true), c.requires) in
    too_long a.ledger a.line (a.old.now ++ a.new.now) a.journal.now _ c.comes_to.ensures over

pub slice_bounds-of_text-end : goal.slice_bounds-of_text-end
slice_bounds-of_text-end c =
    let a = c.args in
    omega (arith, joined_fits a.place.now a.old.now a.new.now c.join.ensures (c.if-not-join.false))

pub slice_bounds-of_text-end-2 : goal.slice_bounds-of_text-end-2
slice_bounds-of_text-end-2 c =
    let a = c.args in
    simp length-take (omega (arith, joined_fits a.place.now a.old.now a.new.now c.join.ensures (c.if-not-join.false)))

pub returns : goal.returns
returns c = decided_as (c.join.ensures.both (c.if-not-join.false)) c.of_text.ensures

-- `component::component_end` meets its contract: what is passed holds no stop.
-- Assumes nothing.
use Rattle.std.proofs.Common.{◌≡◌, get_or, sym, ◌∙◌, arith, rules}
use Rattle.memory.specs.Tests.{is_one_of}
use Rattle.memory.proofs.Tests.{find_stop, find_next, find_done}
use Rattle.component.specs.Component.{stops_of}
use Rattle.component.proofs.Stops.{among}
use Rattle.component.proofs.component_end.Goals as goal

pub returns-then-contains : goal.returns-then-contains
returns-then-contains c =
    let a = c.args in
    let stop = sym (among (stops_of a.d) (get_or a.text.now c.loop-i.i 0)) ∙ sym c.contains.ensures.value ∙ c.if-contains.true in
    find_stop (is_one_of (stops_of a.d)) a.text.now c.loop-i.i (search rules) stop c.loop-i.invariant.same

pub loop-i-preserved : goal.loop-i-preserved
loop-i-preserved c =
    let a = c.args in
    let none = sym (among (stops_of a.d) (get_or a.text.now c.loop-i.i 0)) ∙ sym c.contains.ensures.value ∙ c.if-contains.false in
    record { within = omega arith; same = find_next (is_one_of (stops_of a.d)) a.text.now c.loop-i.i (search rules) none c.loop-i.invariant.same }

pub returns : goal.returns
returns c =
    let a = c.args in
    let end : c.max.result ≡ c.loop-i.i = omega arith in
    end ∙ find_done (is_one_of (stops_of a.d)) a.text.now c.loop-i.i (omega arith) c.loop-i.invariant.same

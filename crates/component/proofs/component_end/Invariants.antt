-- `component::component_end` meets its contract: what is passed holds no stop.
-- Assumes nothing.
use Rattle.std.proofs.Common.{◌≡◌, ◌+◌, ◌≤◌, max, length, drop}
use Rattle.memory.specs.Tests.{is_one_of, find}
use Rattle.component.proofs.component_end.Given as goal

abbrev pub invariant-loop-i : goal.invariant-loop-i
invariant-loop-i l = record {
  within : l.i ≤ max l.start (length l.text);
  same : l.i + find (is_one_of l.stops) (drop l.i l.text) ≡ l.start + find (is_one_of l.stops) (drop l.start l.text);
}

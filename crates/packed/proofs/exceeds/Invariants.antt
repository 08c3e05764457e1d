-- `packed::exceeds` meets its contract. The loop's invariant: so many bytes as it has turned are taken off n.
-- Assumes nothing.
use mathlib.Core.Path.{◌≡◌}
use Prim.Native.Nat.{◌/◌, ◌^◌}
use Rattle.packed.specs.Fields.{width, octets}
use Rattle.packed.proofs.exceeds.Given as goal

abbrev pub invariant-loop : goal.invariant-loop
invariant-loop l = l.rest ≡ l.n / 2 ^ width (octets l.counter)

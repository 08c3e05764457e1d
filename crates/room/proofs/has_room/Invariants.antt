-- `room::has_room` meets its contract. The loop's invariant: `sum` is the claims of the first i lines, each of which is a u32.
-- Assumes nothing.
use mathlib.Core.Path.{◌≡◌}
use Prim.Native.Nat.{◌*◌, ◌≤◌}
use Rattle.room.specs.Room.{sum_to, claim}
use Rattle.room.proofs.has_room.Given as goal

abbrev pub invariant-loop-i : goal.invariant-loop-i
invariant-loop-i l = (l.sum ≤ l.i * 4294967296) × (l.sum ≡ sum_to l.i (claim l.shares l.used))

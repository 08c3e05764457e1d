-- `packed::read_field` meets its contract. The loop's invariant: n is the number that the bytes passed make.
-- Assumes nothing.
use mathlib.Core.Path.{◌≡◌}
use mathlib.Core.List.{List}
use Prim.Native.Nat.{ℕ, ◌^◌, ◌<◌}
use Rattle.memory.specs.Parts.{part}
use Rattle.packed.specs.Fields.{width, pack, octets}
use Rattle.packed.proofs.read_field.Given as goal

pub record Read (area : List ℕ) (at n i : ℕ) : Type 0 where
  pub same : n ≡ pack (octets i) (part area at i)
  pub below : n < 2 ^ width (octets i)

abbrev pub invariant-loop-b : goal.invariant-loop-b
invariant-loop-b l = Read l.area l.at l.n l.b-index

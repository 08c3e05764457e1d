-- `packed::write_field` meets its contract. The loop's invariant: the bytes from i on are written, and rest is what they leave of n.
-- Assumes nothing.
use mathlib.Core.Path.{◌≡◌}
use mathlib.Core.List.{List}
use Prim.Native.Nat.{ℕ, ◌+◌, ◌-◌, ◌/◌, ◌^◌, ◌≤◌}
use Rattle.memory.specs.Parts.{splice}
use Rattle.packed.specs.Fields.{width, octets, unpack}
use Rattle.packed.proofs.write_field.Given as goal

pub record Written (area₀ : List ℕ) (at end n : ℕ) (area : List ℕ) (rest i : ℕ) : Type 0 where
  pub low : at ≤ i
  pub same : area ≡ splice area₀ i (unpack (octets (end - i)) n)
  pub left : rest ≡ n / 2 ^ width (octets (end - i))

abbrev pub invariant-loop-i : goal.invariant-loop-i
invariant-loop-i l = Written l.initial.area l.at (l.at + l.size) l.n l.area l.rest l.i

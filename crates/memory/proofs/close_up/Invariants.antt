-- `memory::close_up` meets its contract. The loop's invariant: i - at of the later bytes have moved down, and the rest is as it was.
-- Assumes nothing.
use mathlib.Core.Path.{◌≡◌}
use mathlib.Core.List.{List}
use Prim.Native.Nat.{ℕ, ◌+◌, ◌-◌, ◌≤◌}
use lib.ListN.{length, take}
use Rattle.memory.specs.Parts.{splice}
use Rattle.memory.specs.Moves.{later}
use Rattle.memory.proofs.close_up.Given as goal

pub record Moved (area₀ : List ℕ) (at gap end last : ℕ) (area : List ℕ) (i : ℕ) : Type 0 where
  pub fits : end ≤ length area₀
  pub room : at + gap ≤ end
  pub upto : last ≡ end - gap
  pub low : at ≤ i
  pub high : i ≤ last
  pub same : area ≡ splice area₀ at (take (i - at) (later area₀ at gap end))
  pub long : length area ≡ length area₀

abbrev pub invariant-loop-i : goal.invariant-loop-i
invariant-loop-i l = Moved l.initial.area l.at l.gap l.end l.last l.area l.i

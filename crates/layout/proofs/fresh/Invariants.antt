-- `layout::fresh` meets its contract. The loop's invariant: the next number of each of the first i lines is 1, and all other numbers are 0.
-- Assumes nothing.
use mathlib.Core.Path.{◌≡◌}
use mathlib.Core.List.{List}
use Prim.Native.Nat.{ℕ, zero, suc, ◌+◌}
use lib.ListN.{set, replicate}
use Rattle.layout.specs.Layout.{start, next_at, numbers_size}
use Rattle.layout.proofs.fresh.Given as goal

abbrev pub first_put : ℕ → List ℕ
first_put zero = replicate numbers_size 0
first_put (suc i) = set (first_put i) (start i + next_at) 1

abbrev pub invariant-loop-i : goal.invariant-loop-i
invariant-loop-i l = l.numbers ≡ first_put l.i

-- `layout::put_speaks` meets its contract. The loop's invariant: what the first i lines speak is put.
-- Assumes nothing.
use mathlib.Core.Path.{◌≡◌}
use mathlib.Core.List.{List}
use Prim.Native.Nat.{ℕ, zero, suc}
use Rattle.layout.specs.Inner.Speaks.{speaks_put}
use Rattle.layout.proofs.put_speaks.Given as goal

abbrev pub first_put : List ℕ → List ℕ → ℕ → List ℕ
first_put ts ns zero = ns
first_put ts ns (suc i) = speaks_put ts (first_put ts ns i) i

abbrev pub invariant-loop-i : goal.invariant-loop-i
invariant-loop-i l = l.numbers ≡ first_put l.speaks l.initial.numbers l.i

-- `escaping::without_escapes::measure` meets its contract: what is counted, with what is left, is all.
-- Assumes nothing.
use mathlib.Core.Path.{◌≡◌}
use mathlib.Core.List.{List}
use Prim.Native.Nat.{ℕ, ◌-◌, ◌≤◌}
use lib.ListN.{length, drop}
use Rattle.kinds.specs.declared.Delimiters.{Delimiters}
use Rattle.escaping.specs.Unescape.{unescaped}
use Rattle.escaping.specs.Inner.Passes.{measured}
use Rattle.escaping.proofs.Unescapes.{size_from}
use Rattle.escaping.proofs.without_escapes.measure.Given as goal

-- before a turn: what is counted, with what is left, is all
pub record Measuring (d : Delimiters) (text : List ℕ) (less i : ℕ) : Type 0 where
  pub i_within : i ≤ length text
  pub less_within : less ≤ i
  pub counted : size_from (i - less) (unescaped d (drop i text)) ≡ measured d text

abbrev pub invariant-loop-i : goal.invariant-loop-i
invariant-loop-i l = Measuring l.d l.text l.less l.i

abbrev pub decreases-loop-i : goal.decreases-loop-i
decreases-loop-i l = length l.text - l.i

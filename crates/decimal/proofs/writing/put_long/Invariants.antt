-- `decimal::writing::put_long` meets its contract: the digits behind `from` are written, and those of rest are still to be, up to there.
-- Assumes nothing.
use mathlib.Core.Path.{◌≡◌}
use mathlib.Core.List.{List, ◌++◌}
use Prim.Native.Nat.{ℕ, ◌+◌, ◌≤◌}
use lib.ListN.{length}
use Rattle.memory.specs.Parts.{splice}
use Rattle.decimal.specs.Decimal.{decimal_of}
use Rattle.decimal.proofs.writing.put_long.Given as goal

pub record Written (n : ℕ) (out₀ : List ℕ) (at end : ℕ) (out : List ℕ) (rest from : ℕ) : Type 0 where
  pub done : List ℕ
  pub text : decimal_of n ≡ decimal_of rest ++ done
  pub whole : end ≡ at + length (decimal_of n)
  pub here : from ≡ at + length (decimal_of rest)
  pub room : from + length done ≤ length out₀
  pub same : out ≡ splice out₀ from done
  pub long : length out ≡ length out₀

abbrev pub invariant-loop-rest : goal.invariant-loop-rest
invariant-loop-rest l = Written l.n l.initial.out l.at l.end l.out l.rest l.from

abbrev pub decreases-loop-rest : goal.decreases-loop-rest
decreases-loop-rest l = l.rest

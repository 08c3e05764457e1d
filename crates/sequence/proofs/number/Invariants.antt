-- `sequence::number` meets its contract: what is passed are digits, and n is their decimal.
-- Assumes nothing.
use Prim.Native.Nat.{ℕ, ◌^◌, ◌<◌}
use mathlib.Core.Path.{◌≡◌}
use mathlib.Core.List.{List}
use lib.ListN.{drop}
use Rattle.memory.specs.Tests.{all}
use Rattle.sequence.specs.Numbers.{is_digit, decimal}
use Rattle.sequence.proofs.number.Given as goal

-- the reader stands at i: what was passed are digits, and n is their decimal
pub record Reading (f : List ℕ) (n i : ℕ) : Type 0 where
  pub small : n < 10 ^ i
  pub value : decimal n (drop i f) ≡ decimal 0 f
  pub digits : all is_digit (drop i f) ≡ all is_digit f

abbrev pub invariant-loop-b : goal.invariant-loop-b
invariant-loop-b l = Reading l.f l.n l.b-index

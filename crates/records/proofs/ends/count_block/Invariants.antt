-- `records::ends::count_block` meets its contract: what is counted, with the CRs still to come, is all.
-- Assumes nothing.
use mathlib.Core.List.{List}
use Prim.Native.Nat.{ℕ, ◌+◌, ◌≤◌}
use mathlib.Core.Path.{◌≡◌}
use lib.ListN.{drop}
use Rattle.memory.specs.Tests.{is, count}
use Rattle.characters.specs.Control.{cr}
use Rattle.records.proofs.ends.count_block.Given as goal

-- the walk stands at i, and n CRs were passed
pub record Counting (text : List ℕ) (i n : ℕ) : Type 0 where
  pub few : n ≤ i
  pub counted : n + count (is cr) (drop i text) ≡ count (is cr) text

abbrev pub invariant-loop-b : goal.invariant-loop-b
invariant-loop-b l = Counting l.text l.b-index l.n

-- `records::last::last_start` meets its contract: no byte from i on is a CR.
-- Assumes nothing.
use Prim.Native.Nat.{◌≤◌}
use mathlib.Core.Path.{◌≡◌}
use mathlib.Core.Bool.{true}
use lib.ListN.{length, drop}
use Rattle.memory.specs.Tests.{all}
use Rattle.records.specs.Records.{is_not_cr}
use Rattle.records.proofs.last.last_start.Given as goal

abbrev pub invariant-loop-i : goal.invariant-loop-i
invariant-loop-i l = (l.i ≤ length l.text) × (all is_not_cr (drop l.i l.text) ≡ true)

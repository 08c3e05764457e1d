-- `message::whole::end_of` meets its contract: no byte that is passed breaks the record off, so none of them is the last.
-- Assumes nothing.
use Rattle.std.proofs.Common.{◌≡◌, ℕ, ◌+◌, ◌-◌, ◌<◌, List, length, drop}
use Rattle.memory.specs.Tests.{find}
use Rattle.message.specs.Inner.Rest.{breaks}
use Rattle.message.proofs.whole.end_of.Given as goal

-- the scan stands at i within the text, and what was passed does not break the record off
pub record Scanning (text : List ℕ) (i : ℕ) : Type 0 where
  pub within : i < length text
  pub unbroken_yet : i + find breaks (drop i text) ≡ find breaks text

abbrev pub invariant-loop-i : goal.invariant-loop-i
invariant-loop-i l = Scanning l.text l.i

abbrev pub decreases-loop-i : goal.decreases-loop-i
decreases-loop-i l = length l.text - l.i

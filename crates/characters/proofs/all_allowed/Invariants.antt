-- `characters::all_allowed` meets its contract. The loop's invariant: the bytes that are still to come decide.
-- Assumes nothing.
use Rattle.std.proofs.Common.{◌≡◌, drop}
use Rattle.memory.specs.Tests.{all}
use Rattle.characters.specs.Allowed.{allowed}
use Rattle.characters.proofs.all_allowed.Given as goal

abbrev pub invariant-loop-b : goal.invariant-loop-b
invariant-loop-b l = all allowed (drop l.b-index l.text) ≡ all allowed l.text

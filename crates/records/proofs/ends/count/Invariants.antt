-- `records::ends::count` meets its contract: the CRs of the blocks that are counted, with those still to come, are all.
-- Assumes nothing.
use Prim.Native.Nat.{◌+◌}
use mathlib.Core.Path.{◌≡◌}
use Rattle.memory.specs.Tests.{is, count}
use Rattle.characters.specs.Control.{cr}
use Rattle.records.proofs.ends.count.Given as goal

abbrev pub invariant-loop-block : goal.invariant-loop-block
invariant-loop-block l = (l.block-iterator.size ≡ 128) × (l.n + count (is cr) l.block-iterator.rest.now ≡ count (is cr) l.text)

-- `digits::check_sum` meets its contract. The loop's invariant: the sum so far is that of the bytes passed, modulo 256.
-- Assumes nothing.
use Rattle.std.proofs.Common.{◌≡◌, ◌%◌, take}
use Rattle.digits.specs.Check.{total}
use Rattle.digits.proofs.check_sum.Given as goal

abbrev pub invariant-loop-b : goal.invariant-loop-b
invariant-loop-b l = l.sum ≡ total (take l.b-index l.counted) % 256

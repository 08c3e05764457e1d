-- `receiving::settling::add_byte` meets its contract.
-- Assumes nothing.
use native.Mathlib.Omega.{arith}
use Rattle.line.proofs.Limits.{within_facts}
use Rattle.receiving.proofs.settling.add_byte.Goals as goal

pub bounds-frames-i : goal.bounds-frames-i
bounds-frames-i c = omega (arith, within_facts c.args.line c.requires.1, c.requires)

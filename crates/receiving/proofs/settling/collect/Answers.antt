-- `receiving::settling::collect` meets its contract.
-- Assumes nothing.
use native.Mathlib.Omega.{arith}
use Rattle.line.proofs.Limits.{within_facts}
use Rattle.receiving.proofs.settling.collect.Goals as goal

pub overflow_add-line : goal.overflow_add-line
overflow_add-line c = omega (arith, within_facts c.args.line c.requires.1)

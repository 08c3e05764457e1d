-- `block::judge` meets its contract: a block of a right length has room for its test bytes.
-- Assumes nothing.
use mathlib.Core.Path.{sym, ◌∙◌}
use native.Mathlib.Omega.{arith}
use lib.ListN.{length}
use Rattle.block.proofs.Laws.{at_least_six}
use Rattle.block.proofs.judge.Goals as goal

pub is_tested-requires : goal.is_tested-requires
is_tested-requires c =
    let a = c.args in
    omega (arith, at_least_six a.patient (length a.block.now) (sym c.is_length.ensures ∙ c.if-not-is_length.false))

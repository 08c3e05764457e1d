-- `stepping::step` meets its contract: the line alone, and the deciding where the look comes to one.
-- Assumes nothing.
use mathlib.Core.Path.{refl}
use Rattle.receiving.proofs.Steps.{step_after}
use Rattle.completing.proofs.Steps.{step_asks}
use Rattle.stepping.proofs.step.Goals as goal

pub returns-in-Done : goal.returns-in-Done
returns-in-Done c =
    let a = c.args in
    rw c.done.ensures (step_after a.line a.ledger a.e a.journal.now a.unfinished.now a.frames.now _ _ c.step_alone-alone.ensures c.in-Done.is refl)

pub returns-in-Decides : goal.returns-in-Decides
returns-in-Decides c =
    let a = c.args in
    step_asks a.line a.ledger a.e a.journal.now a.unfinished.now a.frames.now _ c.step_alone-alone.ensures c.in-Decides.is c.decide.ensures

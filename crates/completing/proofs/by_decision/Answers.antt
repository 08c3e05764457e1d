-- `completing::by_decision` meets its contract: the decision, and the row of its outcome.
-- Assumes nothing.
use mathlib.Core.Path.{refl}
use Rattle.completing.proofs.Steps.{decision_settled}
use Rattle.completing.proofs.by_decision.Goals as goal

pub returns : goal.returns
returns c =
    let a = c.args in
    decision_settled a.line a.ledger a.e a.n a.journal.now a.unfinished.now a.frames.now _ _ _ _ _ _ c.complete.ensures c.requires.0 c.requires.1 c.close.ensures refl

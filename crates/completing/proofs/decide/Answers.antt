-- `completing::decide` meets its contract: 40, 41, 42, then the decision.
-- Assumes nothing.
use mathlib.Core.Path.{sym, ◌∙◌}
use lib.ListN.{length}
use Rattle.receiving.proofs.Steps.{tested_ready}
use Rattle.completing.proofs.Steps.{decide_refused, decide_work}
use Rattle.completing.proofs.decide.Goals as goal

pub by_decision-requires : goal.by_decision-requires
by_decision-requires c =
    let a = c.args in
    tested_ready a.line a.e a.n (length a.journal.now) a.unfinished.now a.frames.now (sym c.test.ensures ∙ c.in-Ok.is)

pub returns-in-Ok : goal.returns-in-Ok
returns-in-Ok c =
    let a = c.args in
    decide_work a.line a.ledger a.e a.n a.journal.now a.unfinished.now a.frames.now _ _ _ _ (sym c.test.ensures ∙ c.in-Ok.is) c.by_decision.ensures

pub returns-in-Err : goal.returns-in-Err
returns-in-Err c =
    let a = c.args in
    decide_refused a.line a.ledger a.e a.n a.journal.now a.unfinished.now a.frames.now _ (sym c.test.ensures ∙ c.in-Err.is)

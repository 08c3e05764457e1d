-- `journal::store` meets its contract: the verdict is `judge`'s, and only where it fits is the entry written.
-- Assumes nothing.
use Rattle.std.specs.Result.{is_ok}
use Rattle.std.proofs.Common.{◌≡◌, length, sym, ap, ◌∙◌, rules}
use Rattle.memory.specs.Sizes.{lines}
use Rattle.journal.proofs.Storings.{ready, not_stored, is_stored, no_err, an_err}
use Rattle.journal.proofs.store.Goals as goal

pub returns-then-is_err : goal.returns-then-is_err
returns-then-is_err c =
    let a = c.args in
    not_stored a.ledger a.shares a.line a.text.now a.journal.now _ c.judge-verdict.ensures (an_err _ (sym c.is_err.ensures.value ∙ c.if-is_err.true))

pub append-after-requires : goal.append-after-requires
append-after-requires c =
    let a = c.args in
    let u : length a.ledger.used ≡ lines = search rules in
    ready a.ledger a.shares a.line a.text.now a.journal.now (ap is_ok (sym c.judge-verdict.ensures) ∙ no_err _ (sym c.is_err.ensures.value ∙ c.if-is_err.false)) u

pub returns : goal.returns
returns c =
    let a = c.args in
    is_stored a.ledger a.shares a.line a.text.now a.journal.now _ _ _ c.judge-verdict.ensures (no_err _ (sym c.is_err.ensures.value ∙ c.if-is_err.false)) c.append-after.ensures

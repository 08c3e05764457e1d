-- `deciding::of_text` meets its contract: the storing judges and stores in one.
-- Assumes nothing.
use mathlib.Core.Path.{sym, ap, ◌∙◌}
use Rattle.deciding.specs.Decisions.{Against}
use Rattle.deciding.proofs.Decisions.{no_message, by_store}
use Rattle.deciding.proofs.of_text.Goals as goal

pub returns-then-not-is_message : goal.returns-then-not-is_message
returns-then-not-is_message c =
    let a = c.args in
    no_message a.ledger a.line a.text.now a.journal.now _ (c.comes_to.ensures ∙ ap Against c.objection.ensures) (sym c.is_message.ensures ∙ c.if-not-is_message.true)

pub returns : goal.returns
returns c =
    let a = c.args in
    by_store a.ledger a.line a.text.now a.journal.now _ _ _ (sym c.is_message.ensures ∙ c.if-not-is_message.false) (rw c.shares.ensures at c.store-stored.ensures) c.by_room.ensures

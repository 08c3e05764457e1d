-- `listing::rows::reply_digits` meets its contract.
-- Assumes nothing.
use Rattle.std.proofs.Common.{sym, ap, ◌∙◌}
use Rattle.listing.specs.Texts.{reply_in}
use Rattle.listing.proofs.rows.reply_digits.Goals as goal

pub returns-in-None : goal.returns-in-None
returns-in-None c = c.dashes.ensures ∙ ap reply_in (sym c.in-None.is ∙ c.reply_to-reply.ensures)

pub returns-in-Some : goal.returns-in-Some
returns-in-Some c = c.check_digits.ensures ∙ ap reply_in (sym c.in-Some.is ∙ c.reply_to-reply.ensures)

-- `header::entry_at` meets its contract: the header is the number of the first bytes, if there are enough.
-- Assumes nothing.
use Rattle.std.proofs.Common.{sym, ap, ◌∙◌, length}
use Rattle.header.specs.Inner.Entry.{whole_head}
use Rattle.header.specs.declared.Header.{Header}
use Rattle.header.proofs.Starts.{first_read, first_unread}
use Rattle.header.proofs.entry_at.Goals as goal

pub returns-in_err-n : goal.returns-in_err-n
returns-in_err-n c = c.from_residual.ensures ∙ first_unread c.args.s.now (sym c.read_field.ensures ∙ c.in_err-n.was)

pub returns : goal.returns
returns c =
    let s = c.args.s.now in
    c.whole.ensures
    ∙ ap (λ (h : Header). whole_head h (length s)) c.fields.ensures
    ∙ first_read s _ (sym c.read_field.ensures ∙ c.in_ok-n.was)

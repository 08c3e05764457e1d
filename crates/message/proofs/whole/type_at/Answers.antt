-- `message::whole::type_at` meets its contract: a type is named exactly if b stands at index 1 and the first byte names it.
-- Assumes nothing.
use Rattle.std.proofs.Common.{sym, ◌∙◌, eq-eqb, ne_eqb}
use Rattle.message.proofs.Breaks.{cr_some}
use Rattle.message.proofs.Starting.{second_byte, type_unknown, type_long, b_first, b_later}
use Rattle.message.proofs.whole.type_at.Goals as goal

pub bounds-text-0 : goal.bounds-text-0
bounds-text-0 c = cr_some c.args.text.now c.requires

pub returns-then-first-b : goal.returns-then-first-b
returns-then-first-b c =
    let a = c.args in
    sym (type_long a.b a.text.now (b_first a.b a.text.now (eq-eqb _ _ c.if-first-b.true)))

pub returns-in_err-k : goal.returns-in_err-k
returns-in_err-k c =
    let a = c.args in
    c.from_residual.ensures ∙ sym (type_unknown a.b a.text.now (sym c.kind_of.ensures ∙ c.in_err-k.was))

pub bounds-text-1 : goal.bounds-text-1
bounds-text-1 c = second_byte c.args.text.now c.requires c.in_ok-k.k (sym c.kind_of.ensures ∙ c.in_ok-k.was)

pub returns-then-text-b : goal.returns-then-text-b
returns-then-text-b c =
    let a = c.args in
    let second = second_byte a.text.now c.requires c.in_ok-k.k (sym c.kind_of.ensures ∙ c.in_ok-k.was) in
    sym (type_long a.b a.text.now (b_later a.b a.text.now second (ne_eqb _ _ c.if-text-b.true)))

-- `listing::reading::seconds_item` meets its contract.
-- Assumes nothing.
use Rattle.std.specs.Prelude.{Some}
use Rattle.std.proofs.Common.{◌≡◌, drop, sym, ◌∙◌, arith}
use Rattle.listing.specs.Items.{operand_at, seconds_item, amount_of}
use Rattle.listing.proofs.Operands.{amount_most}
use Rattle.listing.proofs.reading.seconds_item.Goals as goal

pub overflow_cast-result : goal.overflow_cast-result
overflow_cast-result c =
    let m = amount_most 255 (drop operand_at c.args.text.now) c.in_ok-n.n (sym c.amount_of.ensures ∙ c.in_ok-n.was) in omega arith

pub returns : goal.returns
unfolding seconds_item
returns c =
    let amount : amount_of 255 (drop operand_at c.args.text.now) ≡ Some c.in_ok-n.n = sym c.amount_of.ensures ∙ c.in_ok-n.was in
    rw amount

pub returns-in_err-n : goal.returns-in_err-n
unfolding seconds_item
returns-in_err-n c = rw (c.from_residual.ensures, ← c.amount_of.ensures, c.in_err-n.was)

-- `block::layout::is_laid_out` meets its contract.
-- Assumes nothing.
use Rattle.std.proofs.Common.{◌≡◌, ◌↔◌, IsTrue, ℕ, ◌<◌, length, get_or, true, ◌∙◌, sym, rules}
use borrow.Author.Tests.{ne_eqb}
use Rattle.block.specs.Places.{fits}
use Rattle.block.specs.Inner.Template.{place_of}
use Rattle.block.proofs.Matching.{other_length, laid_out}
use Rattle.block.proofs.layout.is_laid_out.Goals as goal

pub returns-then-template-block : goal.returns-then-template-block
returns-then-template-block c =
    let ms = c.args.template.now in
    let bs = c.args.block.now in
    let each : IsTrue c.all.result ↔ ((k : ℕ) → k < length bs → fits (place_of (get_or ms k 0)) (get_or bs k 0) ≡ true) = search rules in
    laid_out ms bs c.if-template-block.true each

pub returns-else-template-block : goal.returns-else-template-block
returns-else-template-block c =
    let ms = c.args.template.now in
    let bs = c.args.block.now in
    ne_eqb (length ms) (length bs) c.if-template-block.false ∙ sym (other_length ms bs c.if-template-block.false)

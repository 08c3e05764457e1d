-- `orders::starting::ask` meets its contract.
-- Assumes nothing.
use mathlib.Core.Path.{ap, ◌∙◌}
use native.Mathlib.Omega.{arith}
use lib.ListN.{length}
use Rattle.memory.proofs.Moves.{copied_fits}
use Rattle.line.specs.Line.{asked_line}
use Rattle.line.specs.declared.Line.{Line}
use Rattle.looking.specs.Views.{text_start}
use Rattle.ledger.proofs.Ledgers.{there}
use Rattle.numbers.specs.Plain.{with_line}
use Rattle.orders.proofs.Ways.{record_there}
use Rattle.orders.proofs.starting.ask.Goals as goal

pub returns : goal.returns
returns c =
    let a = c.args in
    let ns = a.numbers.now in
    let line = c.record_of-record.ensures ∙ record_there ns a.i c.requires.1 in (
      c.in_numbers.ensures,
      c.put_record.ensures ∙ there a.i ns _ c.requires.0 ∙ ap (with_line ns a.i) (c.asked.ensures ∙ ap (λ (l : Line). asked_line l (length a.text.now)) line),
      (copied_fits a.unfinished.now (text_start a.i) a.text.now c.copy_at.ensures (omega (arith, c.requires))).1,
    )

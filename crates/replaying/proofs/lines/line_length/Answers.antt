-- `replaying::lines::line_length` meets its contract.
-- Assumes nothing.
use Rattle.std.proofs.Common.{length, sym, ◌∙◌}
use Rattle.replaying.proofs.Newlines.{no_length, has_length, usual_line, scanned, below}
use Rattle.replaying.proofs.lines.line_length.Goals as goal

pub returns-then-is_usual : goal.returns-then-is_usual
returns-then-is_usual c =
    let usual = usual_line c.args.rest.now (sym c.is_usual.ensures ∙ c.if-is_usual.true) in
    record { value = has_length c.args.rest.now usual.1 usual.0; within = usual.0 }

pub returns-then-n-rest-clause-value : goal.returns-then-n-rest-clause-value
returns-then-n-rest-clause-value c = no_length c.args.rest.now (sym c.index_of-n.ensures ∙ c.if-n-rest.true)

pub returns : goal.returns
returns c =
    let rest = c.args.rest.now in
    let within = below c.index_of-n.result (length rest) (scanned rest c.index_of-n.result c.index_of-n.ensures) c.if-n-rest.false in
    record { value = has_length rest c.index_of-n.ensures within; within = within }

-- `finding::put_finding` meets its contract.
-- Assumes nothing.
use mathlib.Core.Path.{◌≡◌, ◌∙◌}
use native.Mathlib.Omega.{arith}
use lib.ListN.{length}
use Rattle.settings.specs.Settings.{results_length}
use Rattle.finding.proofs.Ways.{odd_length, no_room, put}
use Rattle.finding.proofs.put_finding.Goals as goal

pub returns-then-block-results_length : goal.returns-then-block-results_length
returns-then-block-results_length c =
    let a = c.args in
    odd_length a.patient a.block.now a.out.now (λ e. c.if-block-results_length.true (rw c.results_length.ensures e))

pub returns-then-out-lt-FINDING_LIMIT : goal.returns-then-out-lt-FINDING_LIMIT
returns-then-out-lt-FINDING_LIMIT c =
    let right : length c.args.block.now ≡ results_length c.args.patient = c.if-block-results_length.false ∙ c.results_length.ensures in
    let a = c.args in
    no_room a.patient a.block.now a.out.now right (omega arith)

pub returns : goal.returns
returns c =
    let right : length c.args.block.now ≡ results_length c.args.patient = c.if-block-results_length.false ∙ c.results_length.ensures in
    let a = c.args in
    put a.patient a.block.now a.out.now right (omega arith) c.write.ensures.0 c.write.ensures.1

-- `finding::trimming::trimmed` meets its contract.
-- Assumes nothing.
use mathlib.Core.Path.{sym, ap, ◌∙◌}
use lib.Seq.{length-take-le}
use Rattle.records.proofs.Scans.{rest_part}
use Rattle.finding.specs.Trimmed.{trimmed_back}
use Rattle.finding.proofs.trimming.trimmed.Goals as goal

pub slice_bounds-result-end : goal.slice_bounds-result-end
slice_bounds-result-end c = sym (length-take-le c.before_spaces-end.result _ c.before_spaces-end.ensures.0)

pub returns : goal.returns
returns c =
    let front = c.spaces_in_front-start in
    let s = c.args.text.now in
    c.before_spaces-end.ensures.1 ∙ ap trimmed_back (rest_part s front.result ∙ front.ensures.1)

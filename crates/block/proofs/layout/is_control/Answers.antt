-- `block::layout::is_control` meets its contract.
-- Assumes nothing.
use mathlib.Core.Path.{ap, ◌∙◌}
use mathlib.Core.List.{List}
use Rattle.block.specs.Places.{Place, matches}
use Rattle.block.proofs.Matching.{control_places}
use Rattle.block.proofs.layout.is_control.Goals as goal

pub returns : goal.returns
returns c = c.is_laid_out.ensures ∙ ap (λ (ps : List Place). matches ps c.args.block.now) (control_places c.args.code c.requires)

-- `block::layout::is_results` meets its contract: both templates are the definition's places, which antt computes and compares, one by one.
-- Assumes nothing.
use Rattle.block.specs.Layouts.{results_block}
use Rattle.block.specs.Inner.Template.{place_of}
use Rattle.block.proofs.Matching.{of_patient}
use Rattle.block.proofs.layout.is_results.Goals as goal

pub returns-in-Ten : goal.returns-in-Ten
unfolding results_block place_of
returns-in-Ten c = of_patient results_block c.args.block.now c.is_laid_out.ensures c.in-Ten.is

pub returns-in-Thirteen : goal.returns-in-Thirteen
unfolding results_block place_of
returns-in-Thirteen c = of_patient results_block c.args.block.now c.is_laid_out-in-Thirteen.ensures c.in-Thirteen.is

-- `block::layout::is_colours` meets its contract: both templates are the definition's places, which antt computes and compares, one by one.
-- Assumes nothing.
use Rattle.block.specs.Layouts.{colours_block}
use Rattle.block.specs.Inner.Template.{place_of}
use Rattle.block.proofs.Matching.{of_patient}
use Rattle.block.proofs.layout.is_colours.Goals as goal

pub returns-in-Ten : goal.returns-in-Ten
unfolding colours_block place_of
returns-in-Ten c = of_patient colours_block c.args.block.now c.is_laid_out.ensures c.in-Ten.is

pub returns-in-Thirteen : goal.returns-in-Thirteen
unfolding colours_block place_of
returns-in-Thirteen c = of_patient colours_block c.args.block.now c.is_laid_out-in-Thirteen.ensures c.in-Thirteen.is

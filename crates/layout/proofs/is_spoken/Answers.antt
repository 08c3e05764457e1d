-- `layout::is_spoken` meets its contract.
-- Assumes nothing.
use Rattle.memory.proofs.Branches.{branches}
use Rattle.layout.proofs.is_spoken.Goals as goal

pub returns-then-n-eq-FRAMES : goal.returns-then-n-eq-FRAMES
returns-then-n-eq-FRAMES c = search branches

pub returns-then-n-eq-BLOCKS_OF_10 : goal.returns-then-n-eq-BLOCKS_OF_10
returns-then-n-eq-BLOCKS_OF_10 c = search branches

pub returns : goal.returns
returns c = search branches

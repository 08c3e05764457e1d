-- `texts::read` meets its contract.
-- Assumes nothing.
use Rattle.texts.proofs.Ways.{by_reading}
use Rattle.texts.proofs.read.Goals as goal

pub returns : goal.returns
returns c = by_reading c.read-reading.ensures c.made_of.ensures

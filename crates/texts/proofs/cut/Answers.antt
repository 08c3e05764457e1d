-- `texts::cut` meets its contract.
-- Assumes nothing.
use Rattle.texts.proofs.Ways.{by_cutting}
use Rattle.texts.proofs.cut.Goals as goal

pub returns : goal.returns
returns c = by_cutting c.cut-framed.ensures c.made_of.ensures

-- `texts::escape` meets its contract.
-- Assumes nothing.
use Rattle.texts.proofs.Ways.{by_escaping}
use Rattle.texts.proofs.escape.Goals as goal

pub returns : goal.returns
returns c = by_escaping c.of_four.ensures c.escape-put.ensures c.made_by_putting.ensures

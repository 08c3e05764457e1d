-- `texts::unescape` meets its contract.
-- Assumes nothing.
use Rattle.texts.proofs.Ways.{by_unescaping}
use Rattle.texts.proofs.unescape.Goals as goal

pub returns : goal.returns
returns c = by_unescaping c.of_four.ensures c.unescape-put.ensures c.made_by_putting.ensures

-- `owner::runs::fill_owners` meets its contract: a run over all records, which nothing owns, gives each its owner.
-- Assumes nothing.
use Rattle.owner.proofs.Whole.{whole}
use Rattle.owner.proofs.runs.fill_owners.Goals as goal

pub returns : goal.returns
returns c = whole c.args.types.now c.args.owners.now c.read_run.new.owners c.read_run.result c.read_run.auto.owners c.requires.0 c.read_run.ensures

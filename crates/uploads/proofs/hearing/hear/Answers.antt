-- `uploads::hearing::hear` meets its contract.
-- Assumes nothing.
use borrow.Author.Tests.{lt-ltb}
use Rattle.memory.specs.Sizes.{lines}
use Rattle.uploads.proofs.hearing.hear.Goals as goal

pub returns : goal.returns
returns c = rw (c.hear.ensures, c.judge.ensures, c.is_again-again.ensures, c.reader_of-reader.ensures, lt-ltb c.args.i lines c.requires)

-- `journal::entry::shrink` meets its contract.
-- Assumes nothing.
use Rattle.std.proofs.Common.{arith}
use Rattle.journal.proofs.entry.shrink.Goals as goal

pub overflow_cast-shrunk : goal.overflow_cast-shrunk
overflow_cast-shrunk c = omega (arith, c.requires.1)

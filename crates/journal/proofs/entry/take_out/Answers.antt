-- `journal::entry::take_out` meets its contract.
-- Assumes nothing.
use Rattle.journal.proofs.Takings.{taken_out}
use Rattle.journal.proofs.entry.take_out.Goals as goal

pub returns : goal.returns
returns c =
    let a = c.args in
    taken_out a.at a.count a.in_use a.journal.now a.buffer.now _ _ _ _ _ c.head_size-head.ensures.0 c.requires.1 c.requires.2 c.copy.ensures c.close_up.ensures

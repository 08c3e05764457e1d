-- `journal::entry::write` meets its contract: the header and the text are written one behind the other.
-- Assumes nothing.
use Rattle.std.proofs.Common.{refl}
use Rattle.journal.proofs.Storings.{two_writes}
use Rattle.journal.proofs.entry.write.Goals as goal

pub returns : goal.returns
returns c =
    let a = c.args in
    two_writes a.line a.serial a.at a.text.now a.journal.now _ _ _ _ _ _ _ c.requires c.number.ensures.1 c.head_size-head.ensures.0 c.number.ensures.0 refl
    c.write_field.ensures c.copy_at.ensures

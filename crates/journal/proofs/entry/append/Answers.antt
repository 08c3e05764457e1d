-- `journal::entry::append` meets its contract: the entry is written, and the ledger is the grown one.
-- Assumes nothing.
use Rattle.std.proofs.Common.{ℕ, ap, ◌∙◌, arith}
use Rattle.journal.specs.Storage.{grown_by, grown, appended}
use Rattle.journal.proofs.entry.append.Goals as goal

pub grow-requires : goal.grow-requires
grow-requires c = (c.requires.line, omega (arith, c.entry_size.ensures.0, c.requires.room, c.requires.long), c.requires.counted)

pub returns : goal.returns
unfolding grown appended
returns c =
    let a = c.args in
    record { result = c.grow.ensures ∙ ap (λ (n : ℕ). grown_by a.ledger a.line n) c.entry_size.ensures.0; after = c.write.ensures }

-- `journal::entry::take_at` meets its contract: the text is copied to the buffer, and what stands behind the entry closes up.
-- Assumes nothing.
use Rattle.std.proofs.Common.{arith, refl, sym, ◌∙◌}
use Rattle.journal.proofs.Takings.{bounds, head_there, taken_short, taken_at}
use Rattle.journal.proofs.entry.take_at.Goals as goal

pub unwrap-h-requires : goal.unwrap-h-requires
unwrap-h-requires c = let a = c.args in rw (c.entry_at.ensures ∙ head_there a.ledger a.line a.at a.journal.now c.requires) refl

pub returns-then-buffer-count : goal.returns-then-buffer-count
returns-then-buffer-count c =
    let a = c.args in
    taken_short a.ledger a.line a.at a.journal.now c.requires c.unwrap-h.result (sym c.entry_at.ensures ∙ c.unwrap-h.ensures) a.buffer.now c.if-buffer-count.true

pub take_out-requires : goal.take_out-requires
take_out-requires c =
    let a = c.args in
    let k = bounds a.ledger a.line a.at a.journal.now c.requires c.unwrap-h.result (sym c.entry_at.ensures ∙ c.unwrap-h.ensures) in
    (k.most, k.fits, k.inside)

pub overflow_cast-count : goal.overflow_cast-count
overflow_cast-count c =
    let a = c.args in
    let k = bounds a.ledger a.line a.at a.journal.now c.requires c.unwrap-h.result (sym c.entry_at.ensures ∙ c.unwrap-h.ensures) in
    omega (arith, k.most)

pub shrink-requires : goal.shrink-requires
shrink-requires c =
    let a = c.args in
    let k = bounds a.ledger a.line a.at a.journal.now c.requires c.unwrap-h.result (sym c.entry_at.ensures ∙ c.unwrap-h.ensures) in
    (c.requires.line, omega (arith, k.most, c.entry_size.ensures.1), omega (arith, k.fits, c.entry_size.ensures.0), omega (arith, k.used, c.entry_size.ensures.0))

pub returns : goal.returns
returns c =
    let a = c.args in
    taken_at a.ledger a.line a.at a.journal.now c.requires c.unwrap-h.result (sym c.entry_at.ensures ∙ c.unwrap-h.ensures) a.buffer.now _ _ _ _
    c.entry_size.ensures.0 c.if-buffer-count.false c.take_out.ensures c.shrink.ensures

-- `uploads::whole::by_block` meets its contract.
-- Assumes nothing.
use mathlib.Core.Path.{refl}
use borrow.Author.Tests.{not-true, not-false}
use Rattle.uploads.proofs.Readings.{reading_room}
use Rattle.uploads.proofs.Ways.{heard, heard_results, heard_filed}
use Rattle.uploads.proofs.whole.by_block.Goals as goal

pub settle-requires : goal.settle-requires
settle-requires c =
    let a = c.args in
    reading_room a.lent.now.numbers.now a.lent.now.frames.now a.patient a.line a.i c.requires.0

pub returns-then-not-heard-clause-ruled : goal.returns-then-not-heard-clause-ruled
returns-then-not-heard-clause-ruled c =
    let a = c.args in
    heard a.lent.now.numbers.now a.lent.now.counts.now a.lent.now.frames.now a.patient a.line a.i a.byte c.requires.0 a.lent.now.journal.now c.requires.1 c.hear-heard.ensures (not-true _ c.if-not-heard.true)
    (record { result = c.in_numbers.ensures; numbers = c.settle.ensures.0; counts = refl; frames = c.settle.ensures.1 })

pub file-requires : goal.file-requires
file-requires c =
    let a = c.args in (
      c.requires.0,
      c.requires.1,
      heard_results a.lent.now.numbers.now a.lent.now.counts.now a.lent.now.frames.now a.patient a.line a.i a.byte c.requires.0 a.lent.now.journal.now c.requires.1 c.hear-heard.ensures (not-false _ c.if-not-heard.false),
    )

pub returns-clause-ruled : goal.returns-clause-ruled
returns-clause-ruled c =
    let a = c.args in
    heard_filed a.lent.now.numbers.now a.lent.now.counts.now a.lent.now.frames.now a.patient a.line a.i a.byte c.requires.0 a.lent.now.journal.now c.requires.1 c.hear-heard.ensures (not-false _ c.if-not-heard.false) c.file.ensures.ruled

-- `uploads::filing::file` meets its contract.
-- Assumes nothing.
use native.Mathlib.Omega.{arith}
use Rattle.uploads.proofs.Readings.{results_fit, reading_room}
use Rattle.uploads.proofs.Ways.{stored_narrow, filed_ruled}
use Rattle.uploads.proofs.filing.file.Goals as goal

pub by_room-requires : goal.by_room-requires
by_room-requires c =
    let a = c.args in (
      reading_room a.lent.now.numbers.now a.lent.now.frames.now a.patient a.line a.i c.requires.0,
      omega (arith, results_fit a.patient, c.requires.2),
      stored_narrow _ a.i _ a.lent.now.journal.now c.ledger_of-ledger.ensures.narrow c.store-stored.ensures,
    )

pub returns-clause-ruled : goal.returns-clause-ruled
returns-clause-ruled c =
    let a = c.args in
    filed_ruled a.lent.now.numbers.now a.lent.now.counts.now a.lent.now.frames.now a.patient a.line a.i a.byte c.requires.0 a.lent.now.journal.now c.requires.1 c.ledger_of-ledger.ensures.result c.store-stored.ensures c.by_room.ensures

-- `reader::take` meets its contract: 40, or the journal's taking of the ledger that the numbers stand for.
-- Assumes nothing.
use native.Mathlib.Omega.{arith}
use Rattle.reader.specs.Takings.{TakeState}
use Rattle.reader.proofs.Ways.{narrow_taken, taken_nowhere, taken_there}
use Rattle.reader.proofs.take.Goals as goal

pub returns-then-i-ge-LINES : goal.returns-then-i-ge-LINES
returns-then-i-ge-LINES c =
    let lent : TakeState = let a = c.args in record { counts = a.counts.now; journal = a.journal.now; buffer = a.buffer.now } in
    taken_nowhere c.args.numbers.now c.args.line lent (omega arith) c.in_numbers.ensures

pub overflow_cast-booked : goal.overflow_cast-booked
overflow_cast-booked c =
    let lent : TakeState = let a = c.args in record { counts = a.counts.now; journal = a.journal.now; buffer = a.buffer.now } in
    let fits = narrow_taken c.args.numbers.now c.args.line lent _ c.take-taking.ensures.result c.ledger_of-ledger.ensures.narrow in
    record { fits = omega (arith, fits) }

pub returns : goal.returns
returns c =
    let lent : TakeState = let a = c.args in record { counts = a.counts.now; journal = a.journal.now; buffer = a.buffer.now } in
    taken_there c.args.numbers.now c.args.line lent (omega arith) c.ledger_of-ledger.ensures.result c.take-taking.ensures c.taking_in_numbers.ensures c.put_used.ensures

-- `journal::take` meets its contract: the place that the walk found is the line's oldest entry's, or the end in use where the line has none.
-- Assumes nothing.
use Rattle.std.proofs.Common.{◌≡◌, ◌<◌, length, ap, arith}
use Rattle.memory.specs.Sizes.{lines, journal_size}
use Rattle.std.specs.Option.{is_some}
use Rattle.journal.proofs.Wholes.{kept_some, standing_at}
use Rattle.journal.proofs.Takings.{taken_line, taken_size, taken_broken, none_waits, one_waits, an_oldest}
use Rattle.journal.proofs.take.Goals as goal

pub returns-then-l-ge-LINES : goal.returns-then-l-ge-LINES
returns-then-l-ge-LINES c = let a = c.args in taken_line a.ledger a.line a.journal.now a.buffer.now (omega arith)

pub returns-then-journal-ne-JOURNAL_SIZE : goal.returns-then-journal-ne-JOURNAL_SIZE
returns-then-journal-ne-JOURNAL_SIZE c = let a = c.args in taken_size a.ledger a.line a.journal.now a.buffer.now (omega arith) c.if-journal-ne-JOURNAL_SIZE.true

pub returns-in_default : goal.returns-in_default
returns-in_default c =
    let a = c.args in
    taken_broken a.ledger a.line a.journal.now a.buffer.now (omega arith) (omega arith) (ap is_some c.in_default.ensures)

pub returns-then-at-ledger : goal.returns-then-at-ledger
returns-then-at-ledger c =
    let a = c.args in
    let s = c.in-Some.ensures in
    let k = kept_some a.ledger a.journal.now s.es s.is in
    none_waits a.ledger a.line _ a.journal.now (omega arith) (omega arith) k (standing_at a.ledger a.journal.now a.line _ s k) a.buffer.now c.if-at-ledger.true

pub take_at-requires : goal.take_at-requires
take_at-requires c =
    let a = c.args in
    let s = c.in-Some.ensures in
    let k = kept_some a.ledger a.journal.now s.es s.is in
    let found = an_oldest a.ledger a.line _ a.journal.now (omega arith) (omega arith) k (standing_at a.ledger a.journal.now a.line _ s k) c.if-at-ledger.false in
    found.stands

pub returns : goal.returns
returns c =
    let a = c.args in
    let s = c.in-Some.ensures in
    let k = kept_some a.ledger a.journal.now s.es s.is in
    let at = standing_at a.ledger a.journal.now a.line _ s k in
    let l : a.line < lines = omega (arith, c.if-l-ge-LINES) in
    let n : length a.journal.now ≡ journal_size = omega (arith, c.if-journal-ne-JOURNAL_SIZE) in
    one_waits a.ledger a.line _ a.journal.now l n k at a.buffer.now _ _ _ (an_oldest a.ledger a.line _ a.journal.now l n k at c.if-at-ledger.false) c.take_at.ensures

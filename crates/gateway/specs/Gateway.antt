-- The gateway of eight lines by value.
-- Assumes nothing.
use Rattle.std.specs.Prelude.{List}
use Rattle.journal.specs.declared.Ledger.{Ledger}
use Rattle.line.specs.declared.Line.{Line}
use Rattle.strips.specs.Readers.{Memo}
use Rattle.answers.specs.declared.Answer.{Answer}

-- the records of the lines, what is kept of a strip reader on each, and the ledger: all that is kept between calls, beside the lent memory
pub record Gateway : Type 0 where
  pub lines : List Line
  pub memos : List Memo
  pub ledger : Ledger

-- the gateway after an event or a taking, and the answer
pub record Handled : Type 0 where
  pub gateway : Gateway
  pub answer : Answer

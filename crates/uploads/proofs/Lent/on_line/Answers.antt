-- `uploads::Lent::on_line` meets its contract.
-- Assumes nothing.
use Rattle.answers.specs.declared.Answer.TheVariants.{Nothing}
use Rattle.uploads.specs.Uploads.{ruling_of}
use Rattle.uploads.proofs.Acts.{left}
use Rattle.uploads.proofs.Lent.on_line.Goals as goal

pub returns-in-Byte-clause-ruled : goal.returns-in-Byte-clause-ruled
returns-in-Byte-clause-ruled c = rw c.in-Byte.is c.on_byte.ensures.ruled

pub returns-in-Seconds-clause-ruled : goal.returns-in-Seconds-clause-ruled
unfolding ruling_of
returns-in-Seconds-clause-ruled c =
    let a = c.args in
    rw c.in-Seconds.is (left a.self.now.numbers.now a.self.now.counts.now a.self.now.frames.now a.patient a.line a.e.line c.requires a.self.now.journal.now _ Nothing c.nothing.ensures)

-- `uploads::acting::settle` meets its contract.
-- Assumes nothing.
use Rattle.uploads.proofs.Puts.{settled}
use Rattle.uploads.proofs.acting.settle.Goals as goal

pub returns : goal.returns
returns c =
    let a = c.args in
    (settled a.numbers.now a.i a.line a.reader c.requires.there c.judged.ensures c.put_record.ensures c.put_reader.ensures, c.put_byte.ensures)

-- `uploads::acting::file` meets its contract.
-- Assumes nothing.
use Rattle.uploads.proofs.Puts.{filed, used_put}
use Rattle.uploads.proofs.acting.file.Goals as goal

pub returns : goal.returns
returns c =
    let a = c.args in
    let (room, fits, narrow) = c.requires in (
      filed a.numbers.now a.i a.line a.ledger a.block.now room.there fits c.judged.ensures c.filed.ensures c.put_record.ensures c.put_serial.ensures c.put_reader.ensures c.keep.ensures,
      used_put a.counts.now a.i room.there a.ledger c.put_used.ensures,
      c.put_byte.ensures,
    )

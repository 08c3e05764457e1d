-- `calls::put_back` meets its contract.
-- Assumes nothing.
use Rattle.calls.proofs.Ways.{put_there}
use Rattle.calls.proofs.put_back.Goals as goal

pub returns : goal.returns
returns c =
    let a = c.args in
    put_there a.numbers.now a.counts.now a.line _ c.requires.0 c.put_record.ensures c.put_serial.ensures c.put_used.ensures c.in_numbers.ensures

-- `calls::leave` meets its contract.
-- Assumes nothing.
use Rattle.calls.proofs.Ways.{put_record_there}
use Rattle.calls.proofs.leave.Goals as goal

pub returns : goal.returns
returns c =
    let a = c.args in
    (put_record_there a.numbers.now a.i a.line c.requires c.put_record.ensures, c.in_numbers.ensures)

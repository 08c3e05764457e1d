-- `framing::put_frame` meets its contract.
-- Assumes nothing.
use Rattle.std.proofs.Common.{arith}
use Rattle.framing.proofs.Put.{not_put, no_room, put}
use Rattle.framing.proofs.put_frame.Goals as goal

pub returns-then-number-gt-MOST_NUMBER : goal.returns-then-number-gt-MOST_NUMBER
returns-then-number-gt-MOST_NUMBER c =
    let a = c.args in
    not_put a.number a.end a.text.now a.out.now (omega arith)

pub returns-then-out-size : goal.returns-then-out-size
returns-then-out-size c =
    let a = c.args in
    no_room a.number a.end a.text.now a.out.now (omega arith) (omega arith)

pub returns : goal.returns
returns c =
    let a = c.args in
    put a.number a.end a.text.now a.out.now (omega arith) (omega arith) c.lay_frame.ensures

-- `orders::fetching::put_reply` meets its contract.
-- Assumes nothing.
use Rattle.orders.proofs.Ways.{reply_refused, reply_put}
use Rattle.orders.proofs.fetching.put_reply.Goals as goal

pub returns-in-None : goal.returns-in-None
returns-in-None c =
    let a = c.args in
    reply_refused a.code a.out.now c.put_control.ensures _ c.in-None.is c.refused_with.ensures

pub returns-in-Some : goal.returns-in-Some
returns-in-Some c =
    let a = c.args in
    reply_put a.code a.out.now c.put_control.ensures _ c.in-Some.is c.done.ensures

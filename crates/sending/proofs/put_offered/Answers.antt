-- `sending::put_offered` meets its contract.
-- Assumes nothing.
use Rattle.sending.proofs.put_offered.Goals as goal

pub returns-in-Out : goal.returns-in-Out
returns-in-Out c = rw c.in-Out.is c.put_sent.ensures

-- `sending::on_byte` meets its contract.
-- Assumes nothing.
use Rattle.sending.proofs.on_byte.Goals as goal

pub returns-in-Asking : goal.returns-in-Asking
returns-in-Asking c = rw c.in-Asking.is c.ask_reply.ensures

pub returns-in-Pausing : goal.returns-in-Pausing
returns-in-Pausing c = rw c.in-Pausing.is

pub returns-in-Offering : goal.returns-in-Offering
returns-in-Offering c = rw c.in-Offering.is c.frame_reply.ensures

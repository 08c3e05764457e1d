-- `sending::late` meets its contract.
-- Assumes nothing.
use Rattle.sending.proofs.late.Goals as goal

pub returns-in-Pausing : goal.returns-in-Pausing
returns-in-Pausing c = search c.in-Pausing.is

-- `sending::replies::offer_at` meets its contract.
-- Assumes nothing.
use Rattle.memory.proofs.Branches.{branches}
use Rattle.sending.proofs.replies.offer_at.Goals as goal

pub returns-then-at-line : goal.returns-then-at-line
returns-then-at-line c = search branches

pub returns : goal.returns
returns c = search branches

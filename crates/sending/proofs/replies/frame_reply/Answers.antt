-- `sending::replies::frame_reply` meets its contract.
-- Assumes nothing.
use mathlib.Core.Path.{◌∙◌}
use Rattle.memory.proofs.Branches.{branches}
use Rattle.sending.specs.Onward.{frame_reply}
use Rattle.sending.proofs.replies.frame_reply.Goals as goal

pub returns-then-line-at : goal.returns-then-line-at
unfolding frame_reply
returns-then-line-at c = search branches

pub returns-then-b-eq-ACK : goal.returns-then-b-eq-ACK
unfolding frame_reply
returns-then-b-eq-ACK c = c.next_frame.ensures ∙ search branches

pub returns-then-b-eq-EOT : goal.returns-then-b-eq-EOT
unfolding frame_reply
returns-then-b-eq-EOT c = c.next_frame-then-b-eq-EOT.ensures ∙ search branches

pub returns-then-n-lt-MOST_TRIES : goal.returns-then-n-lt-MOST_TRIES
unfolding frame_reply
returns-then-n-lt-MOST_TRIES c = search branches

pub returns : goal.returns
unfolding frame_reply
returns c = search branches

-- `sending::replies::ask_reply` meets its contract.
-- Assumes nothing.
use mathlib.Core.Path.{◌∙◌}
use Prim.Native.Nat.{◌+◌, ◌≤◌, ◌<◌}
use native.Mathlib.Omega.{arith}
use Rattle.memory.proofs.Branches.{branches}
use Rattle.line.specs.Line.{most_tries}
use Rattle.sending.specs.Onward.{ask_reply}
use Rattle.sending.proofs.replies.ask_reply.Goals as goal

pub returns-then-b-eq-ACK : goal.returns-then-b-eq-ACK
unfolding ask_reply
returns-then-b-eq-ACK c = c.offer_at.ensures ∙ search branches

pub returns-then-b-eq-ENQ : goal.returns-then-b-eq-ENQ
unfolding ask_reply
returns-then-b-eq-ENQ c = search branches

pub returns-then-n : goal.returns-then-n
unfolding ask_reply
returns-then-n c = let few : c.args.n + 1 < most_tries = omega arith in search branches

pub returns : goal.returns
unfolding ask_reply
returns c = let many : most_tries ≤ c.args.n + 1 = omega arith in search branches

-- `sending::on_seconds` meets its contract.
-- Assumes nothing.
use mathlib.Core.Path.{◌∙◌}
use Prim.Native.Nat.{◌+◌, ◌≤◌, ◌<◌}
use native.Mathlib.Omega.{arith}
use Rattle.memory.proofs.Branches.{branches}
use Rattle.sending.specs.Onward.{wait_of, seconds_onward}
use Rattle.sending.proofs.on_seconds.Goals as goal

pub returns-then-total-wait : goal.returns-then-total-wait
unfolding seconds_onward
returns-then-total-wait c =
    let a = c.args in
    let short : a.line.seconds + a.seconds < wait_of a.s = omega (arith, c.wait_of-wait.ensures) in
    search branches

pub returns : goal.returns
unfolding seconds_onward
returns c =
    let a = c.args in
    let long : wait_of a.s ≤ a.line.seconds + a.seconds = omega (arith, c.wait_of-wait.ensures) in
    c.late.ensures ∙ search branches

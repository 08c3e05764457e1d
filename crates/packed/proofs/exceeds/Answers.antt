-- `packed::exceeds` meets its contract. The loop's invariant: so many bytes as it has turned are taken off n.
-- Assumes nothing.
use mathlib.Core.Path.{◌≡◌, sym}
use native.Mathlib.Nat.{div-one}
use native.Mathlib.Omega.{arith}
use Rattle.packed.proofs.Octets.{rest_more, something_left}
use Rattle.packed.proofs.exceeds.Goals as goal

pub loop-init : goal.loop-init
loop-init c = sym (div-one c.args.n)

pub loop-preserved : goal.loop-preserved
loop-preserved c = rw c.loop.invariant (rest_more c.args.n c.loop.counter)

pub returns : goal.returns
returns c =
    let all : c.loop.counter ≡ c.args.size = omega arith in
    rw (c.loop.invariant, all) (something_left c.args.n c.args.size)

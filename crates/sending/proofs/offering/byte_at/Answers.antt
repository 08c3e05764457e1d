-- `sending::offering::byte_at` meets its contract.
-- Assumes nothing.
use mathlib.Core.Path.{sym}
use Prim.Native.Nat.{◌≤◌}
use native.Mathlib.Omega.{arith}
use lib.ListN.{length, get_or-eq_default}
use Rattle.sending.proofs.offering.byte_at.Goals as goal

pub returns : goal.returns
returns c =
    let a = c.args in
    let past : length a.text.now ≤ a.i = omega arith in
    sym (get_or-eq_default a.text.now 0 past)

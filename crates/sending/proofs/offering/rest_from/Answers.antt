-- `sending::offering::rest_from` meets its contract.
-- Assumes nothing.
use mathlib.Core.Path.{sym}
use Prim.Native.Nat.{◌-◌, ◌≤◌}
use native.Mathlib.Omega.{arith}
use lib.ListN.{length, drop, length-drop, drop_of_length-le}
use lib.Seq.{take_all}
use Rattle.sending.proofs.offering.rest_from.Goals as goal

pub returns-then-at-text : goal.returns-then-at-text
returns-then-at-text c =
    let a = c.args in
    take_all (length a.text.now - a.at) (drop a.at a.text.now) (rw length-drop (omega arith))

pub returns : goal.returns
returns c =
    let a = c.args in
    let past : length a.text.now ≤ a.at = omega arith in
    sym (drop_of_length-le a.text.now past)

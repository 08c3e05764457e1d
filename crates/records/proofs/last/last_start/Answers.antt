-- `records::last::last_start` meets its contract: no byte from i on is a CR.
-- Assumes nothing.
use native.Mathlib.Omega.{arith}
use Prim.Native.Nat.{◌+◌, ◌-◌, ◌≤◌}
use mathlib.Core.Path.{◌≡◌, sym}
use lib.ListN.{length, drop_of_length-le}
use Rattle.records.proofs.LastRecord.{scan_stop, scan_on, start_zero}
use Rattle.records.proofs.last.last_start.Goals as goal

pub loop-i-init : goal.loop-i-init
loop-i-init c =
    let s = c.args.text.now in
    let le : length s ≤ length s = omega arith in
    (le, rw (drop_of_length-le s le))

pub returns-then-text-i-eq-CR : goal.returns-then-text-i-eq-CR
returns-then-text-i-eq-CR c =
    let i = c.loop-i.i in
    let next : i - 1 + 1 ≡ i = omega arith in
    rw next (scan_stop c.args.text.now i (omega arith) (omega arith) c.if-text-i-eq-CR.true c.loop-i.invariant.1)

pub loop-i-preserved : goal.loop-i-preserved
loop-i-preserved c = (omega arith, scan_on c.args.text.now c.loop-i.i (omega arith) (omega arith) c.if-text-i-eq-CR.false c.loop-i.invariant.1)

pub returns : goal.returns
returns c = let z : c.loop-i.i ≡ 0 = omega arith in sym (start_zero c.args.text.now (rw z at c.loop-i.invariant.1))

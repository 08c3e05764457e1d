-- `listing::rows::put_last` meets its contract.
-- Assumes nothing.
use Rattle.std.proofs.Common.{◌+◌, ◌≤◌, length, ap, arith, length-set, rules}
use Rattle.decimal.proofs.Stores.{put_two}
use Rattle.decimal.proofs.Putting.{put_fits}
use Rattle.listing.proofs.Columns.{last_taken, last_reply}
use Rattle.listing.proofs.rows.put_last.Goals as goal

pub returns-then-number-eq-TAKEN : goal.returns-then-number-eq-TAKEN
returns-then-number-eq-TAKEN c =
    let a = c.args in
    let is = last_taken a.number a.taken c.if-number-eq-TAKEN.true in
    rw is (put_fits a.taken a.out.now a.at c.put.ensures (omega (arith, c.requires, ap length is)))

pub returns : goal.returns
returns c =
    let two : c.args.at + 2 ≤ length c.args.out.now = omega (arith, c.requires, ap length (last_reply c.args.number c.args.taken c.if-number-eq-TAKEN.false)) in
    let a = c.args in
    rw (last_reply a.number a.taken c.if-number-eq-TAKEN.false, c.reply_digits-digits.ensures) (search rules, put_two a.out.now a.at _ _ two)

pub bounds-out-at : goal.bounds-out-at
bounds-out-at c =
    let two : c.args.at + 2 ≤ length c.args.out.now = omega (arith, c.requires, ap length (last_reply c.args.number c.args.taken c.if-number-eq-TAKEN.false)) in
    omega (arith, two)

pub bounds-out-at-2 : goal.bounds-out-at-2
bounds-out-at-2 c =
    let two : c.args.at + 2 ≤ length c.args.out.now = omega (arith, c.requires, ap length (last_reply c.args.number c.args.taken c.if-number-eq-TAKEN.false)) in
    simp length-set (omega (arith, two))

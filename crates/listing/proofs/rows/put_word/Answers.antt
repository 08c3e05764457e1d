-- `listing::rows::put_word` meets its contract.
-- Assumes nothing.
use Rattle.std.proofs.Common.{arith, length-set}
use Rattle.decimal.specs.Decimal.{decimal_of, digit_for}
use Rattle.listing.specs.Texts.{space, word_text}
use Rattle.decimal.proofs.Digits.{one_digit, one_long}
use Rattle.decimal.proofs.Stores.{put_two, byte_behind}
use Rattle.decimal.proofs.Putting.{put_fits}
use Rattle.listing.proofs.Columns.{length_word}
use Rattle.listing.proofs.rows.put_word.Goals as goal

pub bounds-out-at : goal.bounds-out-at
bounds-out-at c = omega (arith, c.requires, length_word c.args.n)

pub bounds-out-at-then-n-lt10 : goal.bounds-out-at-then-n-lt10
bounds-out-at-then-n-lt10 c = simp length-set (omega (arith, c.requires, length_word c.args.n, one_long c.args.n (omega arith)))

pub returns-then-n-lt10 : goal.returns-then-n-lt10
unfolding word_text
returns-then-n-lt10 c =
    let a = c.args in
    let l = length_word a.n in
    let one = one_long a.n (omega arith) in
    (omega (arith, l, one), rw (one_digit a.n (omega arith)) (put_two a.out.now a.at (digit_for a.n) space (omega (arith, c.requires, l, one))))

pub bounds-out-end : goal.bounds-out-end
bounds-out-end c =
    let a = c.args in
    let l = length_word a.n in
    omega (arith, c.requires, l, c.put-end, (put_fits a.n a.out.now a.at c.put-end.ensures (omega (arith, l, c.requires))).0)

pub returns : goal.returns
unfolding word_text
returns c =
    let a = c.args in
    let l = length_word a.n in
    let e = put_fits a.n a.out.now a.at c.put-end.ensures (omega (arith, l, c.requires)) in
    (omega (arith, l, e.0), byte_behind a.out.now a.at (decimal_of a.n) space (omega (arith, l, c.requires)) e.0 e.1)

pub overflow_add-result-2 : goal.overflow_add-result-2
overflow_add-result-2 c =
    let a = c.args in
    let l = length_word a.n in
    omega (arith, c.requires, l, c.put-end, (put_fits a.n a.out.now a.at c.put-end.ensures (omega (arith, l, c.requires))).0)

-- `decimal::writing::put_short` meets its contract.
-- Assumes nothing.
use Rattle.std.proofs.Common.{◌<◌}
use Rattle.std.proofs.Common.{ap, ◌∙◌}
use Prim.Native.Nat.{◌+◌, ◌/◌, ◌%◌, ◌≤◌}
use mathlib.Core.List.{[], ◌∷◌}
use native.Mathlib.Omega.{arith}
use borrow.Author.Rules.{rules}
use lib.ListN.{length, length-set, set}
use Rattle.memory.proofs.Parts.{set_splice}
use Rattle.decimal.specs.Decimal.{digit_for}
use Rattle.decimal.specs.Inner.Groups.{two_digits}
use Rattle.decimal.proofs.Digits.{one_digit, one_long, two_digits_law, two_long, three_digits, three_long, four_digits_law, four_long}
use Rattle.decimal.proofs.Stores.{joined}
use Rattle.decimal.proofs.writing.put_short.Goals as goal

pub bounds-out-at : goal.bounds-out-at
bounds-out-at c = omega (arith, c.requires.1, one_long c.args.n (omega arith))

pub put_two-requires : goal.put_two-requires
put_two-requires c = (search rules, omega (arith, c.requires.1, two_long c.args.n (omega arith) (omega arith)))

pub returns-then-n-lt100 : goal.returns-then-n-lt100
returns-then-n-lt100 c = rw (two_digits_law c.args.n (omega arith) (omega arith)) (search rules, c.put_two.ensures)

pub returns-then-n-lt1000 : goal.returns-then-n-lt1000
returns-then-n-lt1000 c =
    let three : c.args.at + 3 ≤ length c.args.out.now = omega (arith, c.requires.1, three_long c.args.n (omega arith) (omega arith)) in
    let a = c.args in
    let room = three in
    let first = set_splice a.out.now a.at (digit_for (a.n / 100)) (omega (arith, room)) in
    rw (three_digits a.n (omega arith) (omega arith)) (
      search rules,
      joined a.out.now a.at (digit_for (a.n / 100) ∷ []) (two_digits (a.n % 100)) (omega (arith, room)) (search rules) (rw c.digit-then-n-lt1000.ensures first) c.put_two-then-n-lt1000.ensures,
    )

pub shape_of-out-then-n-lt1000 : goal.shape_of-out-then-n-lt1000
shape_of-out-then-n-lt1000 c = omega (arith, c.put_two-then-n-lt1000, length-set c.args.out.now c.args.at c.digit-then-n-lt1000.result)

pub put_four-requires : goal.put_four-requires
put_four-requires c = (search rules, omega (arith, c.requires.1, four_long c.args.n (omega arith) (omega arith)))

pub returns : goal.returns
returns c = rw (four_digits_law c.args.n (omega arith) (omega arith)) (search rules, c.put_four.ensures)

pub bounds-out-at-then-n-lt1000 : goal.bounds-out-at-then-n-lt1000
bounds-out-at-then-n-lt1000 c =
    let three : c.args.at + 3 ≤ length c.args.out.now = omega (arith, c.requires.1, three_long c.args.n (omega arith) (omega arith)) in
    omega (arith, three)

pub put_two-requires-then-n-lt1000 : goal.put_two-requires-then-n-lt1000
put_two-requires-then-n-lt1000 c =
    let three : c.args.at + 3 ≤ length c.args.out.now = omega (arith, c.requires.1, three_long c.args.n (omega arith) (omega arith)) in
    (search rules, simp length-set (omega (arith, three)))

pub returns-then-n-lt10 : goal.returns-then-n-lt10
returns-then-n-lt10 c =
    let room : c.args.at < length c.args.out.now = omega (arith, c.requires.1, one_long c.args.n (omega arith)) in
    let stored = set_splice c.args.out.now c.args.at (digit_for c.args.n) room in
    rw (one_digit c.args.n (omega arith)) (search rules, ap (set c.args.out.now c.args.at) c.digit.ensures ∙ stored)

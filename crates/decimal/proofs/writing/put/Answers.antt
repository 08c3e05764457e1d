-- `decimal::writing::put` meets its contract.
-- Assumes nothing.
use Prim.Native.Nat.{◌+◌, ◌/◌, ◌%◌, ◌≤◌}
use native.Mathlib.Omega.{arith}
use borrow.Author.Rules.{rules}
use lib.ListN.{length, length-append}
use Rattle.decimal.specs.Decimal.{decimal_of}
use Rattle.decimal.specs.Inner.Groups.{four_digits}
use Rattle.decimal.proofs.Digits.{last_four, four_longer}
use Rattle.decimal.proofs.Stores.{joined}
use Rattle.decimal.proofs.writing.put.Goals as goal

pub put_short-middle-requires : goal.put_short-middle-requires
put_short-middle-requires c =
    let room : (let a = c.args in a.at + length (decimal_of (a.n / 10000)) + 4 ≤ length a.out.now) = omega (arith, c.requires, four_longer c.args.n (omega arith)) in
    (omega arith, omega (arith, room))

pub put_four-requires : goal.put_four-requires
put_four-requires c =
    let room : (let a = c.args in a.at + length (decimal_of (a.n / 10000)) + 4 ≤ length a.out.now) = omega (arith, c.requires, four_longer c.args.n (omega arith)) in
    (search rules, omega (arith, room, c.put_short-middle, c.put_short-middle.ensures.0))

pub returns-then-n-lt100000000 : goal.returns-then-n-lt100000000
returns-then-n-lt100000000 c =
    let room : (let a = c.args in a.at + length (decimal_of (a.n / 10000)) + 4 ≤ length a.out.now) = omega (arith, c.requires, four_longer c.args.n (omega arith)) in
    let a = c.args in
    let e = c.put_short-middle.ensures in
    rw (last_four a.n (omega arith)) (
      omega (arith, e.0, length-append (decimal_of (a.n / 10000)) (four_digits (a.n % 10000))),
      joined a.out.now a.at (decimal_of (a.n / 10000)) (four_digits (a.n % 10000)) (omega (arith, room)) e.0 e.1 c.put_four.ensures,
    )

pub returns-then-n-lt10000 : goal.returns-then-n-lt10000
returns-then-n-lt10000 c = c.put_short.ensures

pub overflow_add-result : goal.overflow_add-result
overflow_add-result c =
    let room : (let a = c.args in a.at + length (decimal_of (a.n / 10000)) + 4 ≤ length a.out.now) = omega (arith, c.requires, four_longer c.args.n (omega arith)) in
    let add_four : c.put_short-middle.result + 4 ≤ length c.args.out.now = omega (arith, room, c.put_short-middle.ensures.0) in
    omega (arith, add_four)

pub returns : goal.returns
returns c = c.put_long.ensures

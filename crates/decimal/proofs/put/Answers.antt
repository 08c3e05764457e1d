-- `decimal::put` meets its contract.
-- Assumes nothing.
use mathlib.Core.Path.{sym, ◌∙◌}
use Prim.Native.Nat.{◌+◌, ◌≤◌}
use native.Mathlib.Omega.{arith}
use borrow.Author.Tests.{leb-true, leb-false}
use lib.ListN.{length}
use Rattle.decimal.specs.Decimal.{decimal_of}
use Rattle.decimal.proofs.Putting.{not_put, put}
use Rattle.decimal.proofs.put.Goals as goal

pub returns-then-out-at : goal.returns-then-out-at
returns-then-out-at c = let a = c.args in not_put a.n a.out.now a.at (omega arith)

pub returns-then-not-has_room : goal.returns-then-not-has_room
returns-then-not-has_room c =
    let a = c.args in
    let long = leb-false (length (decimal_of a.n)) _ (sym c.has_room.ensures ∙ c.if-not-has_room.true) in
    not_put a.n a.out.now a.at (omega (arith, long))

pub returns : goal.returns
returns c =
    let room : (let a = c.args in a.at + length (decimal_of a.n) ≤ length a.out.now) = let a = c.args in
    let fits = leb-true (length (decimal_of a.n)) _ (sym c.has_room.ensures ∙ c.if-not-has_room.false) in
    omega (arith, fits) in
    let a = c.args in
    put a.n a.out.now a.at room c.put.ensures

pub put-requires : goal.put-requires
put-requires c =
    let room : (let a = c.args in a.at + length (decimal_of a.n) ≤ length a.out.now) = let a = c.args in
    let fits = leb-true (length (decimal_of a.n)) _ (sym c.has_room.ensures ∙ c.if-not-has_room.false) in
    omega (arith, fits) in
    room

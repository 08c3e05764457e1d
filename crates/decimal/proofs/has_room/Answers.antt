-- `decimal::has_room` meets its contract.
-- Assumes nothing.
use mathlib.Core.Path.{sym, ap}
use Prim.Native.Nat.{ℕ}
use native.Mathlib.Omega.{arith}
use borrow.Author.Rules.{rules}
use borrow.Author.Tests.{le-leb}
use lib.Dec.{leb}
use lib.ListN.{length}
use Rattle.decimal.specs.Decimal.{decimal_of}
use Rattle.decimal.proofs.Digits.{twenty}
use Rattle.decimal.proofs.has_room.Goals as goal

pub returns-then-room-ge-MOST_DIGITS : goal.returns-then-room-ge-MOST_DIGITS
returns-then-room-ge-MOST_DIGITS c =
    let a = c.args in
    sym (le-leb (length (decimal_of a.n)) a.room (omega (arith, twenty a.n (search rules))))

pub returns : goal.returns
returns c = ap (λ (k : ℕ). leb k c.args.room) c.size.ensures.0

-- `decimal::writing::put_four` meets its contract.
-- Assumes nothing.
use mathlib.Core.Path.{refl}
use native.Mathlib.Omega.{arith}
use Prim.Native.Nat.{◌/◌, ◌%◌}
use Rattle.decimal.specs.Inner.Groups.{two_digits}
use Rattle.decimal.proofs.Stores.{joined}
use Rattle.decimal.proofs.writing.put_four.Goals as goal

pub returns : goal.returns
returns c =
    let a = c.args in
    joined a.out.now a.at (two_digits (a.n / 100)) (two_digits (a.n % 100)) (omega (arith, c.requires.1)) refl c.put_two.ensures c.put_two-2.ensures

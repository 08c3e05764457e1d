-- `memory::copy_at` meets its contract: the part that was lent to `copy` is back in its place.
-- Assumes nothing.
use mathlib.Core.Path.{refl}
use Prim.Native.Nat.{◌+◌, ◌≤◌}
use native.Mathlib.Omega.{arith}
use lib.ListN.{length}
use Rattle.memory.proofs.Moves.{copied_no, lent_back}
use Rattle.memory.proofs.copy_at.Goals as goal

pub returns-then-area-at : goal.returns-then-area-at
returns-then-area-at c = let a = c.args in copied_no a.area.now a.at a.src.now (omega arith)

pub returns-then-area-at-2 : goal.returns-then-area-at-2
returns-then-area-at-2 c = let a = c.args in copied_no a.area.now a.at a.src.now (omega arith)

pub returns : goal.returns
returns c =
    let a = c.args in
    let h : a.at + length a.src.now ≤ length a.area.now = omega arith in
    lent_back a.area.now a.at a.src.now _ _ _ h refl c.copy.ensures

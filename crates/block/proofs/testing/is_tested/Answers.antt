-- `block::testing::is_tested` meets its contract.
-- Assumes nothing.
use mathlib.Core.Path.{◌≡◌, ap, ◌∙◌}
use Prim.Native.Nat.{ℕ, ◌-◌}
use native.Mathlib.Nat.{sub-zero}
use borrow.Author.Tests.{ne_eqb}
use lib.ListN.{length, take}
use Rattle.block.specs.Judged.{test_byte}
use Rattle.block.proofs.TestByte.{high_wrong, low_tells}
use Rattle.block.proofs.testing.is_tested.Goals as goal

pub returns-then-block-counted : goal.returns-then-block-counted
returns-then-block-counted c =
    let counted : (let s = c.args.block.now in c.test_byte-test.result ≡ test_byte (take (length s - 3) s)) = let s = c.args.block.now in
    c.test_byte-test.ensures ∙ ap (λ (n : ℕ). test_byte (take n s)) (sub-zero (length s - 3)) in
    low_tells c.args.block.now c.requires counted c.high_half.ensures c.if-block-counted.true c.low_half.ensures

pub returns-else-block-counted : goal.returns-else-block-counted
returns-else-block-counted c =
    let counted : (let s = c.args.block.now in c.test_byte-test.result ≡ test_byte (take (length s - 3) s)) = let s = c.args.block.now in
    c.test_byte-test.ensures ∙ ap (λ (n : ℕ). test_byte (take n s)) (sub-zero (length s - 3)) in
    ne_eqb _ _ c.if-block-counted.false ∙ high_wrong c.args.block.now counted c.high_half.ensures c.if-block-counted.false

-- `block::testing::test_byte` meets its contract.
-- Assumes nothing.
use Rattle.std.proofs.Common.{◌≡◌, ◌∙◌, sym, rules}
use Rattle.std.specs.Prelude.{fold, bit_xor}
use Rattle.block.proofs.TestByte.{test_folds}
use Rattle.block.proofs.testing.test_byte.Goals as goal

pub returns : goal.returns
returns c =
    let s = c.args.counted.now in
    let folded : c.fold.result ≡ fold (λ t b. bit_xor t b) 0 s = search rules in
    folded ∙ sym (test_folds s 0)

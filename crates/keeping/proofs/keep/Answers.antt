-- `keeping::keep` meets its contract.
-- Assumes nothing.
use native.Mathlib.Omega.{arith}
use borrow.Author.Rules.{rules}
use Rattle.keeping.proofs.Walks.{put_nowhere, put_none, put_end}
use Rattle.keeping.proofs.keep.Goals as goal

pub returns-then-i-ge-LINES : goal.returns-then-i-ge-LINES
returns-then-i-ge-LINES c =
    let a = c.args in
    put_nowhere a.numbers.now a.i a.block.now (search rules)

pub returns-then-block-gt-BLOCK_LIMIT : goal.returns-then-block-gt-BLOCK_LIMIT
returns-then-block-gt-BLOCK_LIMIT c =
    let a = c.args in
    put_none a.numbers.now a.i a.block.now (search rules) (search rules)

pub returns : goal.returns
returns c =
    let a = c.args in
    put_end a.numbers.now a.i a.block.now (omega arith) (omega arith) c.loop-k.k (omega arith) c.loop-k.invariant

-- `keeping::put_reader` meets its contract.
-- Assumes nothing.
use Prim.Native.Nat.{◌<◌}
use borrow.Author.Tests.{lt-ltb}
use Rattle.memory.specs.Sizes.{lines}
use Rattle.memory.proofs.Branches.{branches}
use Rattle.keeping.specs.Keeping.{with_reader}
use borrow.Author.Rules.{rules}
use Rattle.keeping.proofs.put_reader.Goals as goal

pub returns-then-i-ge-LINES : goal.returns-then-i-ge-LINES
returns-then-i-ge-LINES c = search branches

pub returns : goal.returns
unfolding with_reader
returns c =
    let a = c.args in
    let there : a.i < lines = search rules in
    rw (lt-ltb a.i lines there, c.reply_number.ensures) (search rules)

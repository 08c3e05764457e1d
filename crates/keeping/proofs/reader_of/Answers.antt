-- `keeping::reader_of` meets its contract.
-- Assumes nothing.
use Prim.Native.Nat.{◌<◌, ◌≤◌}
use borrow.Author.Tests.{lt-ltb, le-ltb}
use Rattle.memory.specs.Sizes.{lines}
use borrow.Author.Rules.{rules}
use Rattle.keeping.proofs.reader_of.Goals as goal

pub returns-then-i-ge-LINES : goal.returns-then-i-ge-LINES
returns-then-i-ge-LINES c =
    let a = c.args in
    let nowhere : lines ≤ a.i = search rules in
    rw (le-ltb a.i lines nowhere) c.fresh.ensures

pub returns : goal.returns
returns c =
    let a = c.args in
    let there : a.i < lines = search rules in
    rw (lt-ltb a.i lines there, c.replied_of.ensures)

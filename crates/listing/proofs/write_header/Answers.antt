-- `listing::write_header` meets its contract.
-- Assumes nothing.
use Rattle.std.proofs.Common.{arith}
use Rattle.listing.specs.Texts.{header_text}
use Rattle.listing.proofs.Stores.{copied_room, copied_not, copied_all}
use Rattle.listing.proofs.write_header.Goals as goal

pub returns-then-not-copy_at : goal.returns-then-not-copy_at
returns-then-not-copy_at c =
    let a = c.args in
    copied_not header_text a.out.now a.at c.copy_at.ensures (c.if-not-copy_at.true)

pub overflow_add-result : goal.overflow_add-result
overflow_add-result c =
    let a = c.args in
    omega (arith, copied_room header_text a.out.now a.at c.copy_at.ensures (c.if-not-copy_at.false))

pub returns : goal.returns
returns c =
    let a = c.args in
    copied_all header_text a.out.now a.at c.copy_at.ensures (c.if-not-copy_at.false)

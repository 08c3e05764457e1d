-- `replaying::lines::next` meets its contract.
-- Assumes nothing.
use Rattle.std.proofs.Common.{◌≡◌, ◌+◌, true, leb, sym, ◌∙◌, arith}
use Rattle.replaying.specs.Desk.{row_room}
use Rattle.replaying.proofs.Newlines.{nothing_left}
use Rattle.replaying.proofs.lines.next.Goals as goal

pub returns-then-input-at : goal.returns-then-input-at
returns-then-input-at c =
    let a = c.args in
    let room : leb (a.put + row_room) a.most ≡ true = sym c.has_room.ensures ∙ c.if-not-has_room.false in
    rw (room, ← nothing_left a.input.now a.at (omega arith))

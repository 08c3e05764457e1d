-- `listing::write_total` meets its contract.
-- Assumes nothing.
use Rattle.std.proofs.Common.{◌+◌, ◌≤◌, length, arith}
use Rattle.memory.proofs.Moves.{copied_fits}
use Rattle.decimal.specs.Decimal.{decimal_of}
use Rattle.listing.specs.Texts.{events_text, total_text}
use Rattle.decimal.proofs.Stores.{joined}
use Rattle.decimal.proofs.Putting.{put_fits}
use Rattle.listing.proofs.Stores.{text_no, text_yes}
use Rattle.listing.proofs.Columns.{length_total}
use Rattle.listing.proofs.write_total.Goals as goal

pub returns-then-out-at : goal.returns-then-out-at
returns-then-out-at c =
    let a = c.args in
    text_no (total_text a.events) a.out.now a.at (omega arith)

pub returns-then-out-at-2 : goal.returns-then-out-at-2
returns-then-out-at-2 c =
    let a = c.args in
    text_no (total_text a.events) a.out.now a.at (omega (arith, length_total a.events, c.size-n.ensures.0))

pub returns : goal.returns
unfolding total_text
returns c =
    let a = c.args in
    let k = c.size-n.ensures.0 in
    let m = length_total a.events in
    let room : a.at + length (total_text a.events) ≤ length a.out.now = omega (arith, m, k) in
    let put = put_fits a.events a.out.now a.at c.put-end.ensures (omega (arith, room, m)) in
    let done = (copied_fits _ _ events_text c.copy_at.ensures (omega (arith, m, k, put.0, c.put-end))).1 in
    text_yes (total_text a.events) a.out.now a.at room (omega (arith, m, k))
    (joined a.out.now a.at (decimal_of a.events) events_text (omega (arith, room, m)) put.0 put.1 done)

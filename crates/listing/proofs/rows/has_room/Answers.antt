-- `listing::rows::has_room` meets its contract.
-- Assumes nothing.
use Rattle.std.proofs.Common.{ℕ, leb, length, sym, ap, arith, rules, le-leb}
use Rattle.listing.specs.Texts.{row_text}
use Rattle.listing.proofs.Columns.{longest_row}
use Rattle.listing.proofs.rows.has_room.Goals as goal

pub returns-then-room-ge-LONGEST : goal.returns-then-room-ge-LONGEST
returns-then-room-ge-LONGEST c =
    let a = c.args in
    let fits = longest_row a.event a.line a.number a.taken (search rules) (search rules) (search rules) (search rules) in
    sym (le-leb (length (row_text a.event a.line a.number a.taken)) a.room (omega (arith, fits)))

pub returns : goal.returns
returns c = ap (λ (n : ℕ). leb n c.args.room) c.measure.ensures

-- `listing::write_row` meets its contract.
-- Assumes nothing.
use Rattle.std.proofs.Common.{◌+◌, ◌≤◌, length, sym, ◌∙◌, arith, leb-false, leb-true}
use Rattle.listing.specs.Texts.{row_text}
use Rattle.listing.proofs.Stores.{text_no, text_yes}
use Rattle.listing.proofs.write_row.Goals as goal

pub returns-then-out-at : goal.returns-then-out-at
returns-then-out-at c =
    let a = c.args in
    text_no (row_text a.event a.line a.number a.length) a.out.now a.at (omega arith)

pub returns-then-not-has_room : goal.returns-then-not-has_room
returns-then-not-has_room c =
    let a = c.args in
    let long = leb-false (length (row_text a.event a.line a.number a.length)) _ (sym c.has_room.ensures ∙ c.if-not-has_room.true) in
    text_no (row_text a.event a.line a.number a.length) a.out.now a.at (omega (arith, long))

pub put-requires : goal.put-requires
put-requires c =
    let room : c.args.at + length (row_text c.args.event c.args.line c.args.number c.args.length) ≤ length c.args.out.now = let a = c.args in
    let fits = leb-true (length (row_text a.event a.line a.number a.length)) _ (sym c.has_room.ensures ∙ c.if-not-has_room.false) in
    omega (arith, fits) in
    room

pub returns : goal.returns
returns c =
    let room : c.args.at + length (row_text c.args.event c.args.line c.args.number c.args.length) ≤ length c.args.out.now = let a = c.args in
    let fits = leb-true (length (row_text a.event a.line a.number a.length)) _ (sym c.has_room.ensures ∙ c.if-not-has_room.false) in
    omega (arith, fits) in
    let a = c.args in
    let e = c.put.ensures in
    text_yes (row_text a.event a.line a.number a.length) a.out.now a.at room e.0 e.1

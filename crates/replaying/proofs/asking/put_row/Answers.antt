-- `replaying::asking::put_row` meets its contract.
-- Assumes nothing.
use Rattle.std.proofs.Common.{length, refl, arith}
use Rattle.listing.specs.Texts.{row_text}
use Rattle.replaying.proofs.Ways.{row_fits, row_put, fits_written}
use Rattle.replaying.proofs.asking.put_row.Goals as goal

pub unwrap-requires : goal.unwrap-requires
unwrap-requires c =
    let a = c.args in
    let line = c.line_of-line.result in
    let n = a.answered in
    let fits = row_fits a.number line n.number n.length a.put (length a.out.now) (omega arith) (omega arith) (omega arith) (omega arith) c.requires in
    rw (fits_written (row_text a.number line n.number n.length) a.out.now a.put fits c.write_row.ensures).0 refl

pub returns : goal.returns
returns c =
    let a = c.args in
    let line = c.line_of-line.result in
    let n = a.answered in
    let fits = row_fits a.number line n.number n.length a.put (length a.out.now) (omega arith) (omega arith) (omega arith) (omega arith) c.requires in
    rw (← c.line_of-line.ensures) (row_put a.number line n.number n.length a.out.now a.put fits c.write_row.ensures c.unwrap.ensures)

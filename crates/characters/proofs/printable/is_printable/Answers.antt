-- `characters::printable::is_printable` meets its contract: of the bytes passed, none lies farther past the space than a printable one exactly if all are printable.
-- Assumes nothing.
use Rattle.std.proofs.Common.{◌≡◌, length, sym, ◌∙◌, arith}
use lib.Seq.{take-length}
use Rattle.characters.specs.Inner.Printable.{printable}
use Rattle.characters.proofs.PrintableBytes.{leb_max, all_more}
use Rattle.characters.proofs.printable.is_printable.Goals as goal

pub loop-b-preserved : goal.loop-b-preserved
loop-b-preserved c =
    let text = c.args.text.now in
    let l = c.loop-b in
    rw (c.max-most.ensures, leb_max l.most c.past_space.result 0x5e, l.invariant, c.past_space.ensures)
    (sym (all_more printable text l.b-index (omega arith)))

pub returns : goal.returns
returns c =
    let all : c.loop-b.b-index ≡ length c.args.text.now = omega arith in
    c.loop-b.invariant ∙ rw (all, take-length)

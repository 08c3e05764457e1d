-- `records::ends::count_block` meets its contract: what is counted, with the CRs still to come, is all.
-- Assumes nothing.
use borrow.Author.Rules.{rules}
use native.Mathlib.Omega.{arith}
use borrow.Author.Tests.{eq-eqb, ne_eqb}
use Rattle.memory.specs.Tests.{is}
use Rattle.characters.specs.Control.{cr}
use Rattle.records.proofs.RecordCount.{count_hit, count_miss, count_done}
use Rattle.records.proofs.ends.count_block.Goals as goal
use Rattle.records.proofs.ends.count_block.Goals.{then-b-eq-CR, else-b-eq-CR}

pub loop-b-init : goal.loop-b-init
loop-b-init c = record { few = omega arith; counted = omega arith }

pub loop-b-preserved : goal.loop-b-preserved
loop-b-preserved c =
    let s = c.args.text.now in
    let l = c.loop-b in
    elim c.if-b-eq-CR.branch [
      | then-b-eq-CR w ↦ record { few = omega arith; counted = rw w.n-is (count_hit (is cr) s l.b-index l.n (search rules) (eq-eqb _ _ w.if-b-eq-CR.true) l.invariant.counted) }
      | else-b-eq-CR w ↦ record { few = omega arith; counted = rw w.n-is (count_miss (is cr) s l.b-index l.n (search rules) (ne_eqb _ _ w.if-b-eq-CR.false) l.invariant.counted) }
    ]

pub returns : goal.returns
returns c = count_done (is cr) c.args.text.now c.loop-b.b-index (search rules) c.loop-b.invariant.counted

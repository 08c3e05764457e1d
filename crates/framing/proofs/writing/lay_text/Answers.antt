-- `framing::writing::lay_text` meets its contract. The loop's invariant: the bytes passed are written, and counted.
-- Assumes nothing.
use Rattle.std.proofs.Common.{◌≡◌, ◌<◌, length, sym, refl, ◌∙◌, arith, length-set, rules}
use lib.Seq.{take-length}
use Rattle.memory.proofs.Parts.{splice_nil}
use Rattle.digits.specs.Check.{total}
use Rattle.digits.proofs.Check.{total_more}
use Rattle.framing.proofs.Put.{text_more}
use Rattle.framing.proofs.writing.lay_text.Goals as goal

pub loop-i-init : goal.loop-i-init
unfolding total
loop-i-init c =
    let a = c.args in
    let byte : a.first < 256 = search rules in
    (omega arith, refl, omega arith, sym (splice_nil a.out.now 2))

pub loop-i-preserved : goal.loop-i-preserved
loop-i-preserved c =
    let a = c.args in
    let l = c.loop-i in
    let p : l.i < length a.text.now = omega arith in (
      omega arith,
      simp length-set l.invariant.1,
      omega (arith, total_more a.text.now l.i p),
      rw l.invariant.3 (text_more a.out.now a.text.now l.i p (omega arith)),
    )

pub returns : goal.returns
returns c =
    let text = c.args.text.now in
    let l = c.loop-i in
    let e : l.i ≡ length text = omega arith in
    (l.invariant.2 ∙ rw (e, take-length), l.invariant.3 ∙ rw (e, take-length))

pub shape_of-out : goal.shape_of-out
shape_of-out c = c.loop-i.invariant.1

-- `message::whole::end_of` meets its contract: no byte that is passed breaks the record off, so none of them is the last.
-- Assumes nothing.
use Rattle.std.proofs.Common.{◌≡◌, ◌+◌, not, sym, ap, ◌∙◌, arith}
use Rattle.memory.proofs.Tests.{find_stop, find_next}
use Rattle.message.specs.Inner.Rest.{breaks}
use Rattle.message.proofs.Breaks.{cr_some, passes}
use Rattle.message.proofs.whole.end_of.Goals as goal

pub loop-i-init : goal.loop-i-init
loop-i-init c = record { within = cr_some c.args.text.now c.requires.1; unbroken_yet = omega arith }

pub bounds-text-i : goal.bounds-text-i
bounds-text-i c = c.loop-i.invariant.within

pub bounds-text-i-in-loop-i : goal.bounds-text-i-in-loop-i
bounds-text-i-in-loop-i c =
    (passes c.args.text.now c.requires.1 c.loop-i.i c.loop-i.invariant.within (sym (c.is_ordinary.ensures.1 c.requires.0) ∙ c.loop-i-test.true)).1

pub returns-then-not-is_ordinary : goal.returns-then-not-is_ordinary
returns-then-not-is_ordinary c =
    let s = c.args.text.now in
    let i = c.loop-i.i in
    let (on, lt) = passes s c.requires.1 i c.loop-i.invariant.within (sym (c.is_ordinary.ensures.1 c.requires.0) ∙ c.loop-i-test.true) in
    find_stop breaks s (i + 1) lt (ap not (sym (c.is_ordinary-in-loop-i.ensures.1 c.requires.0) ∙ c.if-not-is_ordinary.true)) (find_next breaks s i c.loop-i.invariant.within on c.loop-i.invariant.unbroken_yet)

pub loop-i-preserved : goal.loop-i-preserved
loop-i-preserved c =
    let s = c.args.text.now in
    let i = c.loop-i.i in
    let (on, lt) = passes s c.requires.1 i c.loop-i.invariant.within (sym (c.is_ordinary.ensures.1 c.requires.0) ∙ c.loop-i-test.true) in
    let (on₂, lt₂) = passes s c.requires.1 (i + 1) lt (sym (c.is_ordinary-in-loop-i.ensures.1 c.requires.0) ∙ c.if-not-is_ordinary.false) in
    let two : i + 1 + 1 ≡ i + 2 = omega arith in
    record {
      within = omega (arith, lt₂);
      unbroken_yet = rw two at (find_next breaks s (i + 1) lt on₂ (find_next breaks s i c.loop-i.invariant.within on c.loop-i.invariant.unbroken_yet));
    }

pub returns : goal.returns
returns c =
    find_stop breaks c.args.text.now c.loop-i.i c.loop-i.invariant.within (ap not (sym (c.is_ordinary.ensures.1 c.requires.0) ∙ c.loop-i-test.false)) c.loop-i.invariant.unbroken_yet

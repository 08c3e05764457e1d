-- `message::whole::is_right` meets its contract: the records passed are counted, and what is left of the text decides.
-- Assumes nothing.
use Rattle.std.proofs.Common.{◌≡◌, false, sym, refl, ap, ◌∙◌, arith}
use Rattle.kinds.specs.Kinds.{may_follow, is_terminator}
use Rattle.message.specs.Inner.Rest.{counts_of}
use Rattle.kinds.specs.declared.Kind.{Kind}
use Rattle.kinds.specs.declared.Kind.TheVariants.{Header, Patient, Order, Result, Query, Terminator, Comment, Manufacturer}
use Rattle.kinds.proofs.Rows.{follower_at}
use Rattle.message.proofs.Breaks.{ordinary_plain}
use Rattle.message.proofs.Walking.{left_ends, ends_wrong, two_read, behind_ends, end_within, next_within, ends_broken, goes_on, at_the_end}
use Rattle.message.proofs.whole.is_right.Goals as goal

no_l : (k : Kind) → (k ≡ Terminator → ⊥) → is_terminator k ≡ false
no_l Header n = refl
no_l Patient n = refl
no_l Order n = refl
no_l Result n = refl
no_l Query n = refl
no_l Terminator n = absurd (n refl)
no_l Comment n = refl
no_l Manufacturer n = refl

pub lead-requires : goal.lead-requires
unfolding may_follow
lead-requires c =
    let a = c.args in
    let l = c.loop-at in
    (ordinary_plain a.d.field c.requires.0, follower_at, l.invariant.tally, left_ends a.d a.rest.now c.requires.0 c.requires.2 (counts_of l.other l.counts) l.at c.loop-at-test.true)

pub returns-in_default : goal.returns-in_default
returns-in_default c =
    let a = c.args in
    let l = c.loop-at in
    ends_wrong a.d a.rest.now c.requires.0 c.requires.2 (counts_of l.other l.counts) l.at c.loop-at-test.true l.invariant.decides c.in_default.ensures

pub slice_bounds-behind-count : goal.slice_bounds-behind-count
slice_bounds-behind-count c =
    let a = c.args in
    let l = c.loop-at in
    omega (arith, two_read a.d a.rest.now c.requires.0 c.requires.2 (counts_of l.other l.counts) l.at c.loop-at-test.true c.in-Some.ensures.0)

pub slice_bounds-behind-start : goal.slice_bounds-behind-start
slice_bounds-behind-start c =
    let a = c.args in
    let l = c.loop-at in
    omega (arith, two_read a.d a.rest.now c.requires.0 c.requires.2 (counts_of l.other l.counts) l.at c.loop-at-test.true c.in-Some.ensures.0)

pub end_of-e-requires : goal.end_of-e-requires
end_of-e-requires c =
    let a = c.args in
    let l = c.loop-at in
    (c.requires.1, behind_ends a.d a.rest.now c.requires.0 c.requires.2 (counts_of l.other l.counts) l.at c.loop-at-test.true c.in-Some.ensures.0)

pub bounds-behind-e : goal.bounds-behind-e
bounds-behind-e c =
    let a = c.args in
    let l = c.loop-at in
    end_within a.d a.rest.now c.requires.0 c.requires.2 (counts_of l.other l.counts) l.at c.loop-at-test.true c.in-Some.ensures.0 c.end_of-e.result c.end_of-e.ensures

pub returns-then-behind-e-ne-CR : goal.returns-then-behind-e-ne-CR
returns-then-behind-e-ne-CR c =
    let a = c.args in
    let l = c.loop-at in
    ends_broken a.d a.rest.now c.requires.0 c.requires.2 (counts_of l.other l.counts) l.at c.loop-at-test.true c.in-Some.ensures.0 c.end_of-e.result c.end_of-e.ensures l.invariant.decides c.if-behind-e-ne-CR.true

pub loop-at-preserved : goal.loop-at-preserved
loop-at-preserved c =
    let a = c.args in
    let l = c.loop-at in
    let led = c.in-Some.ensures in
    record {
      within = next_within a.d a.rest.now c.requires.0 c.requires.2 (counts_of l.other l.counts) l.at c.loop-at-test.true led.0 c.end_of-e.result c.end_of-e.ensures;
      tally = led.2;
      decides = goes_on a.d a.rest.now c.requires.0 c.requires.2 (counts_of l.other l.counts) l.at c.loop-at-test.true led.0 c.end_of-e.result c.end_of-e.ensures l.invariant.decides c.if-behind-e-ne-CR.false _ led.1;
    }

pub returns-in-Terminator : goal.returns-in-Terminator
returns-in-Terminator c =
    let a = c.args in
    let l = c.loop-at in
    sym (ap is_terminator c.in-Terminator.is) ∙ at_the_end a.d (counts_of l.other l.counts) a.rest.now l.at (omega arith) ∙ l.invariant.decides

pub returns-in_default-matches : goal.returns-in_default-matches
returns-in_default-matches c =
    let a = c.args in
    let l = c.loop-at in
    sym (no_l l.other c.in_default-matches.not-Terminator) ∙ at_the_end a.d (counts_of l.other l.counts) a.rest.now l.at (omega arith) ∙ l.invariant.decides

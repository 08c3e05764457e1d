-- `numbers::plain::is_quick` meets its contract.
-- Assumes nothing.
use mathlib.Core.Path.{sym, ◌∙◌}
use native.Mathlib.Omega.{arith}
use Rattle.memory.proofs.Branches.{branches}
use Rattle.numbers.specs.Plain.{only_collects}
use Rattle.numbers.proofs.Changes.{quick_busy, quick_idle, quick_full, quick_rest}
use Rattle.numbers.proofs.plain.is_quick.Goals as goal

pub returns-then-numbers-at-ne-INSIDE : goal.returns-then-numbers-at-ne-INSIDE
unfolding only_collects
returns-then-numbers-at-ne-INSIDE c = search branches

pub returns-then-byte-eq-LF : goal.returns-then-byte-eq-LF
unfolding only_collects
returns-then-byte-eq-LF c = search branches

pub returns-then-not-receives : goal.returns-then-not-receives
returns-then-not-receives c =
    let a = c.args in
    quick_busy a.numbers.now a.i a.byte c.if-numbers-at-ne-INSIDE.false (sym c.receives.ensures ∙ c.if-not-receives.true)

pub returns-then-numbers-at-ge-MOST_COLLECTED : goal.returns-then-numbers-at-ge-MOST_COLLECTED
returns-then-numbers-at-ge-MOST_COLLECTED c =
    let a = c.args in
    let idle = quick_idle a.numbers.now a.i a.byte c.if-numbers-at-ne-INSIDE.false (sym c.receives.ensures ∙ c.if-not-receives.false) in
    quick_full a.numbers.now a.i a.byte c.if-numbers-at-ne-INSIDE.false c.if-byte-eq-LF.false idle (omega arith)

pub returns : goal.returns
returns c =
    let a = c.args in
    let idle = quick_idle a.numbers.now a.i a.byte c.if-numbers-at-ne-INSIDE.false (sym c.receives.ensures ∙ c.if-not-receives.false) in
    c.are_counts_within.ensures ∙ sym (quick_rest a.numbers.now a.i a.byte c.if-numbers-at-ne-INSIDE.false c.if-byte-eq-LF.false idle (omega arith))

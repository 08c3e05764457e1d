-- `numbers::record_of` meets its contract.
-- Assumes nothing.
use mathlib.Core.Path.{◌≡◌, sym, ◌∙◌}
use mathlib.Core.Bool.{true}
use Rattle.numbers.specs.Changes.{is_within}
use Rattle.numbers.proofs.Changes.{within_facts}
use Rattle.numbers.proofs.record_of.Goals as goal

pub returns-then-not-is_within : goal.returns-then-not-is_within
returns-then-not-is_within c = rw (sym c.is_within.ensures ∙ c.if-not-is_within.true) c.fresh.ensures

pub line_of-requires : goal.line_of-requires
line_of-requires c =
    let within : (let a = c.args in is_within a.numbers.now a.i ≡ true) = sym c.is_within.ensures ∙ c.if-not-is_within.false in
    let a = c.args in within_facts a.numbers.now a.i within

pub returns : goal.returns
returns c =
    let within : (let a = c.args in is_within a.numbers.now a.i ≡ true) = sym c.is_within.ensures ∙ c.if-not-is_within.false in
    rw within c.line_of.ensures

-- `numbers::begin` meets its contract.
-- Assumes nothing.
use mathlib.Core.Path.{sym, ◌∙◌}
use native.Mathlib.Omega.{arith}
use Rattle.numbers.proofs.Changes.{begun_nowhere, not_begun, begun}
use Rattle.numbers.proofs.begin.Goals as goal

pub returns-then-i-ge-LINES : goal.returns-then-i-ge-LINES
returns-then-i-ge-LINES c = let a = c.args in begun_nowhere a.numbers.now a.i a.kind (omega arith)

pub returns-then-not-is_begin : goal.returns-then-not-is_begin
returns-then-not-is_begin c = let a = c.args in not_begun a.numbers.now a.i a.kind (omega arith) (sym c.is_begin.ensures ∙ c.if-not-is_begin.true)

pub returns : goal.returns
returns c = let a = c.args in begun a.numbers.now a.i a.kind (omega arith) (sym c.is_begin.ensures ∙ c.if-not-is_begin.false)

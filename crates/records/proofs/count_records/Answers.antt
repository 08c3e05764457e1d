-- `records::count_records` meets its contract: each CR ends a record, and bytes behind the last CR are one more.
-- Assumes nothing.
use mathlib.Core.Path.{◌∙◌}
use native.Mathlib.Omega.{arith}
use Rattle.memory.specs.Tests.{is}
use Rattle.characters.specs.Control.{cr}
use Rattle.records.proofs.RecordCount.{count_le, count_none, count_ended, count_open}
use Rattle.records.proofs.count_records.Goals as goal

pub returns-then-len-eq0 : goal.returns-then-len-eq0
returns-then-len-eq0 c = c.count-n.ensures ∙ count_none c.args.text.now c.if-len-eq0.true

pub returns-then-text-len-eq-CR : goal.returns-then-text-len-eq-CR
returns-then-text-len-eq-CR c = c.count-n.ensures ∙ count_ended c.args.text.now (omega arith) c.if-text-len-eq-CR.true

pub overflow_add-result : goal.overflow_add-result
overflow_add-result c = omega (arith, c.count-n.ensures, count_le (is cr) c.args.text.now, c.well_formed)

pub returns : goal.returns
returns c = let e = count_open c.args.text.now (omega arith) c.if-text-len-eq-CR.false in omega (arith, e, c.count-n.ensures)

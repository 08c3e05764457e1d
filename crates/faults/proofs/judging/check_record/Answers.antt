-- `faults::judging::check_record` meets its contract: the type and the number are those of fields 1 and 2.
-- Assumes nothing.
use mathlib.Core.Path.{◌≡◌, sym, ap, ◌∙◌}
use Rattle.records.specs.Fields.{field_of}
use Rattle.sequence.specs.Numbers.{number_of}
use Rattle.faults.specs.Faults.{record_step, kind_step}
use Rattle.faults.proofs.Head.{known_second}
use Rattle.std.proofs.lemmas.Result.{err_from_is_err_and}
use Rattle.std.specs.Prelude.{Some, None}
use native.Mathlib.Omega.{arith}
use Rattle.faults.proofs.judging.check_record.Goals as goal

pub returns : goal.returns
unfolding record_step
returns c =
    let a = c.args in
    let is : c.type_of.result ≡ Some c.in_ok-k.k = grind arith in
    let known = sym c.type_of.ensures ∙ is in
    let number : number_of (field_of a.d.field 2 a.rec.now) ≡ c.sequence_of.result =
    ap number_of (known_second a.d.field a.rec.now _ known) ∙ sym c.sequence_of.ensures in
    rw (known, number) c.check_kind.ensures

pub returns-in_err-k : goal.returns-in_err-k
unfolding record_step kind_step
returns-in_err-k c =
    let p = err_from_is_err_and c.from_residual.result c.from_residual.ensures.1 in
    let is : c.type_of.result ≡ None = grind arith in
    rw (p.1, p.2, ← c.type_of.ensures, is) (grind arith)

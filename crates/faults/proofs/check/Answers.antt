-- `faults::check` meets its contract: each test in its turn, and then the records.
-- Assumes nothing.
use Rattle.std.specs.Prelude.{Err, ℕ}
use Rattle.faults.specs.declared.Flaw.TheVariants.{Faulty}
use mathlib.Core.Path.{◌≡◌, sym, ap, ◌∙◌}
use mathlib.Core.Bool.{true}
use native.Mathlib.Omega.{arith}
use borrow.Author.Tests.{lt-leb, eq-eqb, ne_eqb}
use Rattle.memory.specs.Tests.{is, all}
use Rattle.characters.specs.Control.{cr}
use Rattle.characters.specs.Allowed.{allowed}
use Rattle.records.specs.Records.{records}
use Rattle.records.proofs.RecordCount.{count_le, count_open}
use Rattle.kinds.specs.declared.Delimiters.{Delimiters}
use Rattle.answers.specs.declared.Fault.TheVariants.{NoFinalCr}
use Rattle.faults.specs.Faults.{records_fault, fault}
use Rattle.faults.proofs.Walked.{not_allowed, empty, no_final_cr, ended}
use Rattle.faults.proofs.check.Goals as goal

pub returns-then-n-gt-MESSAGE_LIMIT : goal.returns-then-n-gt-MESSAGE_LIMIT
unfolding fault
returns-then-n-gt-MESSAGE_LIMIT c = rw (lt-leb _ _ c.if-n-gt-MESSAGE_LIMIT.true)

pub returns-then-not-all_allowed : goal.returns-then-not-all_allowed
returns-then-not-all_allowed c =
    let a = c.args in
    not_allowed _ a.text.now (omega arith) (sym c.all_allowed.ensures ∙ c.if-not-all_allowed.true)

pub returns-then-n-eq0 : goal.returns-then-n-eq0
returns-then-n-eq0 c =
    let clean : all allowed c.args.text.now ≡ true = sym c.all_allowed.ensures ∙ c.if-not-all_allowed.false in
    let a = c.args in
    empty _ a.text.now (omega arith) clean c.if-n-eq0.true

pub overflow_cast-result : goal.overflow_cast-result
overflow_cast-result c =
    let text = c.args.text.now in
    omega (arith, c.count_records.ensures, count_open text (omega arith) c.if-text-n-ne-CR.true, count_le (is cr) text)

pub returns-then-text-n-ne-CR : goal.returns-then-text-n-ne-CR
returns-then-text-n-ne-CR c =
    let clean : all allowed c.args.text.now ≡ true = sym c.all_allowed.ensures ∙ c.if-not-all_allowed.false in
    let a = c.args in
    ap (λ (n : ℕ). Err (Faulty NoFinalCr n)) c.count_records.ensures ∙ no_final_cr _ a.text.now (omega arith) clean (omega arith) (ne_eqb _ _ c.if-text-n-ne-CR.true)

pub records_fault-requires : goal.records_fault-requires
records_fault-requires c = (c.delimiters_of.ensures, omega arith, omega arith)

-- the records, by the four that the text names
pub returns : goal.returns
returns c =
    let clean : all allowed c.args.text.now ≡ true = sym c.all_allowed.ensures ∙ c.if-not-all_allowed.false in
    let text = c.args.text.now in
    ended _ text (omega arith) clean (omega arith) (eq-eqb _ _ c.if-text-n-ne-CR.false)
    (c.records_fault.ensures ∙ ap (λ (d : Delimiters). records_fault d (records text)) c.delimiters_of.ensures)

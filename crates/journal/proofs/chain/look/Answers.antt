-- `journal::chain::look` meets its contract.
-- Assumes nothing.
use Rattle.std.proofs.Common.{◌≡◌, length, not, sym, ap, ◌∙◌, arith, rules, length-take}
use Rattle.memory.specs.Sizes.{lines}
use Rattle.journal.proofs.Wholes.{beyond, unchained, compared, all_pairs, either_way}
use Rattle.journal.proofs.chain.look.Goals as goal

pub returns-then-journal-in_use : goal.returns-then-journal-in_use
returns-then-journal-in_use c = let a = c.args in beyond a.ledger a.journal.now (omega arith)

pub returns-in_err-walked : goal.returns-in_err-walked
returns-in_err-walked c =
    let a = c.args in
    rw c.from_residual.ensures
    (unchained a.ledger a.journal.now (omega arith) c.in_err-walked.ensures)

-- the ledger's counts beside the sums, number by number
pub returns : goal.returns
returns c =
    let a = c.args in
    let s = c.in_ok-walked.ensures in
    let u : length a.ledger.used ≡ lines = search rules in
    let v : length c.in_ok-walked.walked.sums ≡ lines = search rules in
    record {
      es = s.es;
      is = compared a.ledger a.journal.now a.line _ (omega arith) s _ (sym (ap not c.if-ne.false) ∙ all_pairs _ _ c.ne.result u v (search either_way));
      stands = s.stands;
    }

pub returns-then-ne : goal.returns-then-ne
returns-then-ne c =
    let a = c.args in
    let s = c.in_ok-walked.ensures in
    let u : length a.ledger.used ≡ lines = search rules in
    let v : length c.in_ok-walked.walked.sums ≡ lines = search rules in
    compared a.ledger a.journal.now a.line _ (omega arith) s _ (sym (ap not c.if-ne.true) ∙ all_pairs _ _ c.ne.result u v (search either_way))

pub slice_bounds-walk-end : goal.slice_bounds-walk-end
slice_bounds-walk-end c = rw length-take (omega arith)

pub walk-requires : goal.walk-requires
walk-requires c = rw length-take (omega arith)

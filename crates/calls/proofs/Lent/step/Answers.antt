-- `calls::Lent::step` meets its contract: the line alone, and the deciding where the look comes to one.
-- Assumes nothing.
use Rattle.calls.specs.Inner.Lents.{kept}
use Rattle.calls.proofs.Ways.{by_record, put_after_law, by_decide}
use Rattle.calls.proofs.Lent.step.Goals as goal

pub returns-in-Done-clause-stepped : goal.returns-in-Done-clause-stepped
returns-in-Done-clause-stepped c =
    by_record (kept c.args.self.now) c.args.e c.requires.1 c.record_of-record.ensures
    (put_after_law (kept c.args.self.now) _ c.args.e c.step_alone-alone.ensures c.requires.0 c.in-Done.is c.leave.ensures.0 c.leave.ensures.1)

pub returns-in-Decides-clause-stepped : goal.returns-in-Decides-clause-stepped
returns-in-Decides-clause-stepped c =
    by_record (kept c.args.self.now) c.args.e c.requires.1 c.record_of-record.ensures
    (by_decide (kept c.args.self.now) _ c.args.e c.step_alone-alone.ensures c.in-Decides.is c.decide.ensures.decided)

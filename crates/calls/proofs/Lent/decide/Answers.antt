-- `calls::Lent::decide` meets its contract: the outcome of the deciding, put back.
-- Assumes nothing.
use Rattle.calls.specs.Inner.Lents.{kept}
use Rattle.calls.proofs.Ways.{narrow_after, put_decided}
use Rattle.calls.proofs.Lent.decide.Goals as goal

pub put_back-requires : goal.put_back-requires
put_back-requires c = (c.requires, narrow_after _ _ _ _ _ c.decide-s.ensures.result c.ledger_of-ledger.ensures.narrow)

pub returns-clause-decided : goal.returns-clause-decided
returns-clause-decided c =
    put_decided (kept c.args.self.now) c.args.line c.args.e c.args.n c.ledger_of-ledger.ensures.result c.decide-s.ensures c.put_back.ensures

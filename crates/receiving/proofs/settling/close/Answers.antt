-- `receiving::settling::close` meets its contract: the rows of a decision.
-- Assumes nothing.
use mathlib.Core.Path.{refl}
use Rattle.receiving.proofs.Rows.{closed_as}
use Rattle.receiving.proofs.settling.close.Goals as goal

pub returns-in-Store : goal.returns-in-Store
returns-in-Store c =
    let a = c.args in
    closed_as a.n c.in-Store.is (record { line = c.accepted.ensures; texts = c.write_frame.ensures.0; frames = c.write_frame.ensures.1 })

pub returns-in-Object : goal.returns-in-Object
returns-in-Object c =
    let a = c.args in
    closed_as a.n c.in-Object.is (record { line = c.against.ensures; texts = c.write_frame-in-Object.ensures.0; frames = c.write_frame-in-Object.ensures.1 })

pub returns-in-Leave : goal.returns-in-Leave
returns-in-Leave c = let a = c.args in closed_as a.n c.in-Leave.is (record { line = refl; texts = refl; frames = refl })

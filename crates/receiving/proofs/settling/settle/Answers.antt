-- `receiving::settling::settle` meets its contract: each arm is a row of the rules L1 to L8 and L14, and no look decides a message.
-- Assumes nothing.
use mathlib.Core.Path.{refl}
use Rattle.receiving.proofs.Rows.{settled_as, fitting_as, quiet_as, ready_as}
use Rattle.receiving.proofs.settling.settle.Goals as goal

pub collect-requires : goal.collect-requires
collect-requires c = let r = ready_as c.in-Collect.is refl c.requires in (r.line, r.within, r.bytes)

pub refuse-requires : goal.refuse-requires
refuse-requires c = let r = ready_as c.in-Refuse.is refl c.requires in (r.line, r.within, r.bytes)

pub accept-requires : goal.accept-requires
accept-requires c = (ready_as c.in-Accept.is refl c.requires, fitting_as c.args.line c.in-Accept.is c.requires.0)

pub returns-in-Leave : goal.returns-in-Leave
returns-in-Leave c = settled_as c.in-Leave.is (record { line = refl; texts = refl; frames = refl })

pub returns-in-Open : goal.returns-in-Open
returns-in-Open c = settled_as c.in-Open.is (record { line = c.opened.ensures; texts = refl; frames = refl })

pub returns-in-Close : goal.returns-in-Close
returns-in-Close c = settled_as c.in-Close.is (record { line = c.closed.ensures; texts = refl; frames = refl })

pub returns-in-Begin : goal.returns-in-Begin
returns-in-Begin c = settled_as c.in-Begin.is (record { line = c.begun.ensures; texts = refl; frames = refl })

pub returns-in-Count : goal.returns-in-Count
returns-in-Count c = settled_as c.in-Count.is (record { line = c.with_seconds.ensures; texts = refl; frames = refl })

pub returns-in-Collect : goal.returns-in-Collect
returns-in-Collect c = settled_as c.in-Collect.is (record { line = c.collect.ensures.0; texts = refl; frames = c.collect.ensures.1 })

pub returns-in-Refuse : goal.returns-in-Refuse
returns-in-Refuse c = settled_as c.in-Refuse.is (record { line = c.refuse.ensures.0; texts = refl; frames = c.refuse.ensures.1 })

pub returns-in-Accept : goal.returns-in-Accept
returns-in-Accept c = settled_as c.in-Accept.is c.accept.ensures

pub returns-in-Store : goal.returns-in-Store
returns-in-Store c = absurd (quiet_as c.in-Store.is c.requires.1)

pub returns-in-Object : goal.returns-in-Object
returns-in-Object c = absurd (quiet_as c.in-Object.is c.requires.1)

pub returns-in-Await : goal.returns-in-Await
returns-in-Await c = settled_as c.in-Await.is (record { line = c.with_seconds-in-Await.ensures; texts = refl; frames = refl })

pub returns-in-Go : goal.returns-in-Go
returns-in-Go c = settled_as c.in-Go.is (record { line = c.gone.ensures; texts = refl; frames = refl })

-- `sending::offering::put_sent` meets its contract.
-- Assumes nothing.
use mathlib.Core.Path.{refl}
use borrow.Author.Tests.{le-ltb, lt-ltb}
use Rattle.sending.proofs.offering.put_sent.Goals as goal

pub returns-then-joined-at : goal.returns-then-joined-at
returns-then-joined-at c = rw (c.in-Offering.is, le-ltb _ c.args.joined c.if-joined-at.true) (record { answer = refl; after = refl })

pub returns-else-joined-at : goal.returns-else-joined-at
returns-else-joined-at c = rw (c.in-Offering.is, lt-ltb _ c.args.joined c.if-joined-at.false) c.put_piece.ensures

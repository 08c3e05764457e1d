-- `orders::fetching::fetch_reply` meets its contract.
-- Assumes nothing.
use Rattle.std.specs.Prelude.{Option, Some}
use Rattle.strips.specs.declared.Reply.{Reply}
use mathlib.Core.Path.{◌≡◌, ap, ◌∙◌}
use Rattle.orders.proofs.Ways.{none_put}
use Rattle.orders.proofs.fetching.fetch_reply.Goals as goal

-- a reply that was looked into
reply_is : {o : Option Reply} {x r : Reply} → o ≡ Some x → x ≡ r → o ≡ Some r
reply_is p q = p ∙ ap (λ (x : Reply). Some x) q

pub returns-in-None : goal.returns-in-None
returns-in-None c = rw c.in-None.is (none_put c.args.out.now c.done.ensures)

pub returns-in-Some-More : goal.returns-in-Some-More
returns-in-Some-More c = rw (reply_is c.in-Some-More.is (rw c.in-Some-More.is at c.in-Some-More.field-0-is)) c.put_reply.ensures

pub returns-in-Some-Again : goal.returns-in-Some-Again
returns-in-Some-Again c = rw (reply_is c.in-Some-Again.is (rw c.in-Some-Again.is at c.in-Some-Again.field-0-is)) c.put_reply-in-Some-Again.ensures

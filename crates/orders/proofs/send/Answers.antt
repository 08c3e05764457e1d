-- `orders::send` meets its contract.
-- Assumes nothing.
use Rattle.std.specs.Prelude.{Ok}
use mathlib.Core.Path.{◌≡◌, refl, sym, ◌∙◌}
use lib.ListN.{length}
use Rattle.numbers.specs.Plain.{within_numbers, line_of}
use Rattle.numbers.proofs.Changes.{within_there}
use Rattle.orders.specs.Starts.{can_start}
use Rattle.orders.specs.Calls.{look_from}
use Rattle.orders.proofs.Looks.{Passed, asks_passed, passed_fits}
use Rattle.orders.proofs.Ways.{sent_as}
use Rattle.orders.proofs.send.Goals as goal

pub ask-requires : goal.ask-requires
ask-requires c =
    let asks : (let a = c.args in look_from a.numbers.now a.line a.text.now (length a.journal.now) (length a.unfinished.now) (length a.frames.now) ≡ Ok tt) = sym c.look.ensures ∙ c.in-Ok.is in
    let passed : (let a = c.args in
    Passed a.line (within_numbers a.numbers.now a.line) (can_start (line_of a.numbers.now a.line)) a.text.now (length a.journal.now) (length a.unfinished.now) (length a.frames.now)) = let a = c.args in asks_passed a.line _ _ a.text.now _ _ _ asks in
    let a = c.args in
    let x = passed in
    let (short, long) = passed_fits a.line _ _ a.text.now _ _ _ x in
    (x.line, sym (within_there a.numbers.now a.line x.line (sym x.limits)), short, long)

pub returns-in-Ok : goal.returns-in-Ok
returns-in-Ok c =
    let asks : (let a = c.args in look_from a.numbers.now a.line a.text.now (length a.journal.now) (length a.unfinished.now) (length a.frames.now) ≡ Ok tt) = sym c.look.ensures ∙ c.in-Ok.is in
    let done = c.ask.ensures in
    sent_as asks (record { result = done.0; numbers = done.1; unfinished = done.2 })

pub returns-in-Err : goal.returns-in-Err
returns-in-Err c = sent_as (sym c.look.ensures ∙ c.in-Err.is) (record { result = c.in_numbers.ensures; numbers = refl; unfinished = refl })

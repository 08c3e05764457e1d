-- `calls::seconds` meets its contract: 40, 41, then the event.
-- Assumes nothing.
use native.Mathlib.Omega.{arith}
use mathlib.Core.Path.{sym, ◌∙◌}
use Rattle.looking.specs.declared.Kind.TheVariants.{Seconds}
use Rattle.calls.specs.Calls.{HostState}
use Rattle.calls.proofs.Ways.{no_line, wrong_size}
use Rattle.calls.proofs.seconds.Goals as goal

pub returns-then-i-ge-LINES : goal.returns-then-i-ge-LINES
returns-then-i-ge-LINES c =
    let kept : HostState = let a = c.args in
    record { numbers = a.numbers.now; counts = a.counts.now; memory = record { journal = a.journal.now; unfinished = a.unfinished.now; frames = a.frames.now } } in
    no_line kept (record { line = c.args.line; kind = Seconds c.args.seconds }) _ (omega arith) c.in_numbers.ensures

pub returns-then-not-are_right : goal.returns-then-not-are_right
returns-then-not-are_right c =
    let kept : HostState = let a = c.args in
    record { numbers = a.numbers.now; counts = a.counts.now; memory = record { journal = a.journal.now; unfinished = a.unfinished.now; frames = a.frames.now } } in
    wrong_size kept (record { line = c.args.line; kind = Seconds c.args.seconds }) _ (omega arith) (sym c.are_right.ensures ∙ c.if-not-are_right.true) c.in_numbers-then-not-are_right.ensures

pub event-requires : goal.event-requires
event-requires c = (omega arith, sym c.are_right.ensures ∙ c.if-not-are_right.false)

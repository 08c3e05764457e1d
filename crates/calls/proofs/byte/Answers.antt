-- `calls::byte` meets its contract: 40, 41, a byte that is only collected, or an event.
-- Assumes nothing.
use native.Mathlib.Omega.{arith}
use Rattle.std.proofs.Common.{rules}
use mathlib.Core.Path.{◌≡◌, sym, ◌∙◌}
use mathlib.Core.Bool.{true}
use lib.ListN.{length}
use Prim.Native.Nat.{◌<◌}
use Rattle.memory.specs.Sizes.{lines}
use Rattle.looking.specs.Lent.{right_lengths}
use Rattle.looking.specs.declared.Kind.TheVariants.{Byte}
use Rattle.calls.specs.Calls.{HostState}
use Rattle.calls.proofs.Ways.{no_line, wrong_size, by_collected, kept_sizes, not_collected}
use Rattle.calls.proofs.byte.Goals as goal

pub returns-then-i-ge-LINES : goal.returns-then-i-ge-LINES
returns-then-i-ge-LINES c =
    let kept : HostState = let a = c.args in
    record { numbers = a.numbers.now; counts = a.counts.now; memory = record { journal = a.journal.now; unfinished = a.unfinished.now; frames = a.frames.now } } in
    no_line kept (record { line = c.args.line; kind = Byte c.args.byte }) _ (omega arith) c.in_numbers.ensures

pub returns-then-not-are_right : goal.returns-then-not-are_right
returns-then-not-are_right c =
    let kept : HostState = let a = c.args in
    record { numbers = a.numbers.now; counts = a.counts.now; memory = record { journal = a.journal.now; unfinished = a.unfinished.now; frames = a.frames.now } } in
    wrong_size kept (record { line = c.args.line; kind = Byte c.args.byte }) _ (omega arith) (sym c.are_right.ensures ∙ c.if-not-are_right.true) c.in_numbers-then-not-are_right.ensures

pub returns-then-collect : goal.returns-then-collect
returns-then-collect c =
    let kept : HostState = let a = c.args in
    record { numbers = a.numbers.now; counts = a.counts.now; memory = record { journal = a.journal.now; unfinished = a.unfinished.now; frames = a.frames.now } } in
    let on_line : c.args.line < lines = omega arith in
    let sizes : (let a = c.args in right_lengths (length a.journal.now) (length a.unfinished.now) (length a.frames.now) ≡ true) = sym c.are_right.ensures ∙ c.if-not-are_right.false in
    by_collected kept c.args.line c.args.byte on_line sizes c.collect.ensures c.if-collect.true c.nothing.ensures

pub event-requires : goal.event-requires
event-requires c =
    let kept : HostState = let a = c.args in
    record { numbers = a.numbers.now; counts = a.counts.now; memory = record { journal = a.journal.now; unfinished = a.unfinished.now; frames = a.frames.now } } in
    let on_line : c.args.line < lines = omega arith in
    let sizes : (let a = c.args in right_lengths (length a.journal.now) (length a.unfinished.now) (length a.frames.now) ≡ true) = sym c.are_right.ensures ∙ c.if-not-are_right.false in
    (omega arith, kept_sizes kept c.args.line c.args.byte on_line sizes c.collect.ensures c.if-collect.false)

pub returns : goal.returns
returns c =
    let kept : HostState = let a = c.args in
    record { numbers = a.numbers.now; counts = a.counts.now; memory = record { journal = a.journal.now; unfinished = a.unfinished.now; frames = a.frames.now } } in
    let on_line : c.args.line < lines = omega arith in
    let sizes : (let a = c.args in right_lengths (length a.journal.now) (length a.unfinished.now) (length a.frames.now) ≡ true) = sym c.are_right.ensures ∙ c.if-not-are_right.false in
    search (rules, not_collected kept c.args.line c.args.byte on_line sizes c.collect.ensures c.if-collect.false c.event.ensures.event)

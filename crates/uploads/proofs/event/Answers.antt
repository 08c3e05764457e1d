-- `uploads::event` meets its contract.
-- Assumes nothing.
use mathlib.Core.Path.{◌≡◌, sym, ◌∙◌}
use mathlib.Core.Bool.{true}
use native.Mathlib.Omega.{arith}
use Rattle.std.proofs.Common.{rules}
use Rattle.looking.specs.Lent.{right_sizes}
use Rattle.numbers.specs.Changes.{is_within}
use Rattle.numbers.proofs.Changes.{not_within}
use Rattle.uploads.specs.Host.{HostState}
use Rattle.uploads.proofs.Events.{no_line, wrong_size, beyond, in_frames, reading, by_work}
use Rattle.uploads.proofs.event.Goals as goal

pub returns-then-i-ge-LINES : goal.returns-then-i-ge-LINES
returns-then-i-ge-LINES c =
    let kept : HostState = let a = c.args in
    record { numbers = a.numbers.now; counts = a.counts.now; memory = record { journal = a.journal.now; unfinished = a.unfinished.now; frames = a.frames.now } } in
    no_line kept c.args.e _ (omega arith) c.in_numbers.ensures

pub returns-then-not-are_right : goal.returns-then-not-are_right
returns-then-not-are_right c =
    let kept : HostState = let a = c.args in
    record { numbers = a.numbers.now; counts = a.counts.now; memory = record { journal = a.journal.now; unfinished = a.unfinished.now; frames = a.frames.now } } in
    wrong_size kept c.args.e _ (omega arith) (sym c.are_right.ensures ∙ c.if-not-are_right.true) c.in_numbers-then-not-are_right.ensures

pub returns-then-not-is_within : goal.returns-then-not-is_within
returns-then-not-is_within c =
    let kept : HostState = let a = c.args in
    record { numbers = a.numbers.now; counts = a.counts.now; memory = record { journal = a.journal.now; unfinished = a.unfinished.now; frames = a.frames.now } } in
    let right : (let a = c.args in right_sizes a.journal.now a.unfinished.now a.frames.now ≡ true) = sym c.are_right.ensures ∙ c.if-not-are_right.false in
    beyond kept c.args.e _ (omega arith) right
    (not_within c.args.numbers.now c.args.e.line (omega arith) (sym c.is_within.ensures ∙ c.if-not-is_within.true)) c.in_numbers-then-not-is_within.ensures

pub on_line-requires : goal.on_line-requires
on_line-requires c =
    let kept : HostState = let a = c.args in
    record { numbers = a.numbers.now; counts = a.counts.now; memory = record { journal = a.journal.now; unfinished = a.unfinished.now; frames = a.frames.now } } in
    let right : (let a = c.args in right_sizes a.journal.now a.unfinished.now a.frames.now ≡ true) = sym c.are_right.ensures ∙ c.if-not-are_right.false in
    let within : (let a = c.args in is_within a.numbers.now a.e.line ≡ true) = sym c.is_within.ensures ∙ c.if-not-is_within.false in
    reading kept c.args.e right within c.record_of-line.ensures c.in-Blocks.is

pub returns-in-Frames : goal.returns-in-Frames
returns-in-Frames c =
    let kept : HostState = let a = c.args in
    record { numbers = a.numbers.now; counts = a.counts.now; memory = record { journal = a.journal.now; unfinished = a.unfinished.now; frames = a.frames.now } } in
    let right : (let a = c.args in right_sizes a.journal.now a.unfinished.now a.frames.now ≡ true) = sym c.are_right.ensures ∙ c.if-not-are_right.false in
    let within : (let a = c.args in is_within a.numbers.now a.e.line ≡ true) = sym c.is_within.ensures ∙ c.if-not-is_within.false in
    in_frames kept c.args.e right within c.record_of-line.ensures _ c.in-Frames.is c.in_numbers-in-Frames.ensures

pub returns-in-Blocks : goal.returns-in-Blocks
returns-in-Blocks c =
    let kept : HostState = let a = c.args in
    record { numbers = a.numbers.now; counts = a.counts.now; memory = record { journal = a.journal.now; unfinished = a.unfinished.now; frames = a.frames.now } } in
    let right : (let a = c.args in right_sizes a.journal.now a.unfinished.now a.frames.now ≡ true) = sym c.are_right.ensures ∙ c.if-not-are_right.false in
    let within : (let a = c.args in is_within a.numbers.now a.e.line ≡ true) = sym c.is_within.ensures ∙ c.if-not-is_within.false in
    search (rules, by_work kept c.args.e right within c.record_of-line.ensures c.in-Blocks.is c.on_line.ensures.ruled)

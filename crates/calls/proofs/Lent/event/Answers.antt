-- `calls::Lent::event` meets its contract: 42, a reader's event, STX between frames, or the step.
-- Assumes nothing.
use mathlib.Core.Path.{◌≡◌, sym, ◌∙◌}
use mathlib.Core.Bool.{true}
use Rattle.layout.specs.Layout.{number_at}
use Rattle.numbers.specs.Changes.{is_within}
use Rattle.numbers.proofs.Changes.{within_facts, not_within}
use Rattle.calls.specs.Inner.Lents.{kept}
use Rattle.calls.proofs.Ways.{beyond, by_upload, reader_not, by_begun, still_within, by_other}
use Rattle.calls.proofs.Lent.event.Goals as goal

pub returns-then-not-is_within-clause-event : goal.returns-then-not-is_within-clause-event
returns-then-not-is_within-clause-event c =
    beyond (kept c.args.self.now) c.args.e _ c.requires.0 c.requires.1
    (not_within c.args.self.now.numbers.now c.args.e.line c.requires.0 (sym c.is_within.ensures ∙ c.if-not-is_within.true)) c.in_numbers.ensures

pub returns-then-is_reader-clause-event : goal.returns-then-is_reader-clause-event
returns-then-is_reader-clause-event c =
    let within : (let a = c.args in is_within a.self.now.numbers.now a.e.line ≡ true) = sym c.is_within.ensures ∙ c.if-not-is_within.false in
    let ns = c.args.self.now.numbers.now in
    by_upload (kept c.args.self.now) c.args.e c.requires.0 c.requires.1 (sym c.is_reader.ensures ∙ c.if-is_reader.true)
    (within_facts ns c.args.e.line within).1 c.event.ensures

pub returns-then-begin-clause-event : goal.returns-then-begin-clause-event
returns-then-begin-clause-event c =
    let within : (let a = c.args in is_within a.self.now.numbers.now a.e.line ≡ true) = sym c.is_within.ensures ∙ c.if-not-is_within.false in
    let in_frames : (let a = c.args in number_at a.self.now.numbers.now a.e.line 10 ≡ 0) = reader_not c.args.self.now.numbers.now c.args.e.line c.requires.0 (sym c.is_reader.ensures ∙ c.if-is_reader.false) in
    by_begun (kept c.args.self.now) c.args.e c.requires.1 within in_frames c.begin.ensures c.if-begin.true c.nothing.ensures

pub step-requires : goal.step-requires
step-requires c =
    let within : (let a = c.args in is_within a.self.now.numbers.now a.e.line ≡ true) = sym c.is_within.ensures ∙ c.if-not-is_within.false in
    let in_frames : (let a = c.args in number_at a.self.now.numbers.now a.e.line 10 ≡ 0) = reader_not c.args.self.now.numbers.now c.args.e.line c.requires.0 (sym c.is_reader.ensures ∙ c.if-is_reader.false) in
    (c.requires.0, still_within (kept c.args.self.now) c.args.e c.requires.1 within in_frames c.begin.ensures c.if-begin.false)

pub returns-clause-event : goal.returns-clause-event
returns-clause-event c =
    let within : (let a = c.args in is_within a.self.now.numbers.now a.e.line ≡ true) = sym c.is_within.ensures ∙ c.if-not-is_within.false in
    let in_frames : (let a = c.args in number_at a.self.now.numbers.now a.e.line 10 ≡ 0) = reader_not c.args.self.now.numbers.now c.args.e.line c.requires.0 (sym c.is_reader.ensures ∙ c.if-is_reader.false) in
    by_other (kept c.args.self.now) c.args.e c.requires.1 within in_frames c.begin.ensures c.if-begin.false c.step.ensures.stepped

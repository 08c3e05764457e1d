-- `orders::starting::look` meets its contract.
-- Assumes nothing.
use mathlib.Core.Path.{◌≡◌, sym, ap, ◌∙◌}
use mathlib.Core.Bool.{true}
use native.Mathlib.Omega.{arith}
use Rattle.looking.specs.Lent.{right_lengths}
use Rattle.numbers.specs.Plain.{line_of}
use Rattle.numbers.specs.Changes.{is_within, record_of}
use Rattle.numbers.proofs.Changes.{within_facts, not_within}
use Rattle.orders.specs.Starts.{can_start, text_look}
use Rattle.orders.proofs.Looks.{look_no_line, look_size, look_beyond, look_busy, look_text}
use Rattle.orders.proofs.Ways.{record_there}
use Rattle.orders.proofs.starting.look.Goals as goal

pub returns-then-i-ge-LINES : goal.returns-then-i-ge-LINES
returns-then-i-ge-LINES c = let a = c.args in look_no_line a.i _ _ a.text.now _ _ _ (omega arith)

pub returns-then-not-are_right : goal.returns-then-not-are_right
returns-then-not-are_right c =
    let a = c.args in
    look_size a.i _ _ a.text.now _ _ _ (omega arith) (sym c.are_right.ensures ∙ c.if-not-are_right.true)

pub returns-then-not-is_within : goal.returns-then-not-is_within
returns-then-not-is_within c =
    let sizes : (let a = c.args in right_lengths a.journal a.unfinished a.frames ≡ true) = sym c.are_right.ensures ∙ c.if-not-are_right.false in
    let a = c.args in
    look_beyond a.i _ _ a.text.now _ _ _ (omega arith) sizes (not_within a.numbers.now a.i (omega arith) (sym c.is_within.ensures ∙ c.if-not-is_within.true))

pub returns-then-not-can_start : goal.returns-then-not-can_start
returns-then-not-can_start c =
    let sizes : (let a = c.args in right_lengths a.journal a.unfinished a.frames ≡ true) = sym c.are_right.ensures ∙ c.if-not-are_right.false in
    let within : (let a = c.args in is_within a.numbers.now a.i ≡ true) = sym c.is_within.ensures ∙ c.if-not-is_within.false in
    let state : (let a = c.args in can_start (record_of a.numbers.now a.i) ≡ can_start (line_of a.numbers.now a.i)) = let a = c.args in ap can_start (record_there a.numbers.now a.i within) in
    let a = c.args in
    look_busy a.i _ _ a.text.now _ _ _ (omega arith) sizes (within_facts a.numbers.now a.i within).1
    (sym state ∙ sym (ap can_start c.record_of-record.ensures) ∙ sym c.can_start.ensures ∙ c.if-not-can_start.true)

pub returns : goal.returns
returns c =
    let sizes : (let a = c.args in right_lengths a.journal a.unfinished a.frames ≡ true) = sym c.are_right.ensures ∙ c.if-not-are_right.false in
    let within : (let a = c.args in is_within a.numbers.now a.i ≡ true) = sym c.is_within.ensures ∙ c.if-not-is_within.false in
    let state : (let a = c.args in can_start (record_of a.numbers.now a.i) ≡ can_start (line_of a.numbers.now a.i)) = let a = c.args in ap can_start (record_there a.numbers.now a.i within) in
    let a = c.args in
    c.look_text.ensures ∙ ap text_look c.check.ensures
    ∙ look_text a.i _ _ a.text.now _ _ _ (omega arith) sizes (within_facts a.numbers.now a.i within).1
    (sym state ∙ sym (ap can_start c.record_of-record.ensures) ∙ sym c.can_start.ensures ∙ c.if-not-can_start.false)

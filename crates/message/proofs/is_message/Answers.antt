-- `message::is_message` meets its contract: a message passes each test, and behind a proper header the rest decides, by the four that this names.
-- Assumes nothing.
use Rattle.std.proofs.Common.{sym, ◌∙◌, arith, length-take-le, eq-eqb, ne_eqb}
use Rattle.memory.proofs.Tests.{is_false, never_both}
use Rattle.records.specs.Records.{ends_with_cr}
use Rattle.kinds.specs.Delimiters.{delimiters_of}
use Rattle.faults.specs.Message.{is_message}
use Rattle.faults.proofs.Messages.{message_some, message_short, message_ends}
use Rattle.message.proofs.Heading.{first_within, rest_ends, first_broken, no_header, no_four, field_ordinary, rest_decides}
use Rattle.message.proofs.is_message.Goals as goal

pub returns-then-n-eq0 : goal.returns-then-n-eq0
returns-then-n-eq0 c =
    let t = c.args.text.now in
    sym (is_false (is_message t) (λ m. omega (arith, message_some (delimiters_of t) t m, c.if-n-eq0.true)))

pub returns-then-n-gt-MESSAGE_LIMIT : goal.returns-then-n-gt-MESSAGE_LIMIT
returns-then-n-gt-MESSAGE_LIMIT c =
    let t = c.args.text.now in
    sym (is_false (is_message t) (λ m. omega (arith, message_short (delimiters_of t) t m, c.if-n-gt-MESSAGE_LIMIT.true)))

pub returns-then-text-n-ne-CR : goal.returns-then-text-n-ne-CR
returns-then-text-n-ne-CR c =
    let t = c.args.text.now in
    sym (is_false (is_message t) (λ m. never_both (ends_with_cr t) (message_ends (delimiters_of t) t m) (ne_eqb _ _ c.if-text-n-ne-CR.true)))

pub end_of-e-requires : goal.end_of-e-requires
end_of-e-requires c = (c.classes-classes.ensures, eq-eqb _ _ c.if-text-n-ne-CR.false)

pub bounds-text-e : goal.bounds-text-e
bounds-text-e c = first_within c.args.text.now (eq-eqb _ _ c.if-text-n-ne-CR.false) c.end_of-e.result c.end_of-e.ensures

pub returns-then-text-e-ne-CR : goal.returns-then-text-e-ne-CR
returns-then-text-e-ne-CR c = first_broken c.args.text.now (eq-eqb _ _ c.if-text-n-ne-CR.false) c.end_of-e.result c.end_of-e.ensures c.if-text-e-ne-CR.true

pub slice_bounds-header-end : goal.slice_bounds-header-end
slice_bounds-header-end c =
    let t = c.args.text.now in
    sym (length-take-le c.end_of-e.result t (omega (arith, first_within t (eq-eqb _ _ c.if-text-n-ne-CR.false) c.end_of-e.result c.end_of-e.ensures)))

pub returns-then-not-is_header : goal.returns-then-not-is_header
returns-then-not-is_header c =
    no_header c.args.text.now (eq-eqb _ _ c.if-text-n-ne-CR.false) c.end_of-e.result c.end_of-e.ensures c.if-text-e-ne-CR.false (omega arith)
    (sym c.is_header.ensures ∙ c.if-not-is_header.true)

pub returns-then-not-are_delimiters : goal.returns-then-not-are_delimiters
returns-then-not-are_delimiters c =
    no_four c.args.text.now (eq-eqb _ _ c.if-text-n-ne-CR.false) c.end_of-e.result c.end_of-e.ensures c.if-text-e-ne-CR.false (omega arith)
    (sym c.is_header.ensures ∙ c.if-not-is_header.false) c.delimiters_of-d.result c.delimiters_of-d.ensures
    (sym c.are_delimiters.ensures ∙ c.if-not-are_delimiters.true)

pub is_right-requires : goal.is_right-requires
is_right-requires c =
    let t = c.args.text.now in
    let e = c.end_of-e.result in (
      field_ordinary t (eq-eqb _ _ c.if-text-n-ne-CR.false) e c.end_of-e.ensures c.if-text-e-ne-CR.false (omega arith)
          (sym c.is_header.ensures ∙ c.if-not-is_header.false) c.delimiters_of-d.result c.delimiters_of-d.ensures,
      c.classes-classes.ensures,
      rest_ends t (eq-eqb _ _ c.if-text-n-ne-CR.false) e c.end_of-e.ensures,
    )

pub returns : goal.returns
returns c =
    c.is_right.ensures
    ∙ rest_decides c.args.text.now (eq-eqb _ _ c.if-text-n-ne-CR.false) c.end_of-e.result c.end_of-e.ensures c.if-text-e-ne-CR.false (omega arith)
    (sym c.is_header.ensures ∙ c.if-not-is_header.false) c.delimiters_of-d.result c.delimiters_of-d.ensures
    (sym c.are_delimiters.ensures ∙ c.if-not-are_delimiters.false)

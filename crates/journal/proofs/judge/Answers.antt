-- `journal::judge` meets its contract: each test is one of the definition, in its order.
-- Assumes nothing.
use Rattle.std.proofs.Common.{true, false, not, ap, sym, ◌∙◌, arith}
use Rattle.journal.proofs.Wholes.{kept, used_below, seen_broken, seen_whole}
use Rattle.journal.proofs.Judged.{judged_line_law, judged_size, judged_text, judged_broken, judged_room}
use Rattle.journal.proofs.judge.Goals as goal

pub returns-then-l-ge-LINES : goal.returns-then-l-ge-LINES
returns-then-l-ge-LINES c = let a = c.args in judged_line_law a.ledger a.shares a.line a.length a.journal.now (omega arith)

pub returns-then-journal-ne-JOURNAL_SIZE : goal.returns-then-journal-ne-JOURNAL_SIZE
returns-then-journal-ne-JOURNAL_SIZE c = let a = c.args in judged_size a.ledger a.shares a.line a.length a.journal.now (omega arith) c.if-journal-ne-JOURNAL_SIZE.true

pub returns-then-length-lt1 : goal.returns-then-length-lt1
returns-then-length-lt1 c = let a = c.args in judged_text a.ledger a.shares a.line a.length a.journal.now (omega arith) (omega arith) (λ p q. omega arith)

pub returns-then-length-gt-MESSAGE_LIMIT : goal.returns-then-length-gt-MESSAGE_LIMIT
returns-then-length-gt-MESSAGE_LIMIT c =
    let a = c.args in
    judged_text a.ledger a.shares a.line a.length a.journal.now (omega arith) (omega arith) (λ p q. omega arith)

pub returns-then-is_none : goal.returns-then-is_none
returns-then-is_none c =
    let a = c.args in
    judged_broken a.ledger a.shares a.line a.length a.journal.now (omega arith) (omega arith) (omega arith) (omega arith) (seen_broken a.ledger a.journal.now _ _ c.look.ensures (c.is_none.ensures ∙ ap not c.if-is_none.true))

pub overflow_add-used : goal.overflow_add-used
overflow_add-used c =
    let a = c.args in
    let whole = seen_whole a.ledger a.journal.now _ _ c.look.ensures (c.is_none.ensures ∙ ap not c.if-is_none.false) in
    let k = kept a.ledger a.journal.now whole in
    omega (arith, used_below a.ledger a.journal.now a.line k (omega arith), k.whole.room)

pub returns-then-not-has_room : goal.returns-then-not-has_room
returns-then-not-has_room c =
    let a = c.args in
    let whole = seen_whole a.ledger a.journal.now _ _ c.look.ensures (c.is_none.ensures ∙ ap not c.if-is_none.false) in
    judged_room a.ledger a.shares a.line a.length a.journal.now (omega arith) (omega arith) (omega arith) (omega arith) false whole
    (rw (← c.entry_size.ensures.0) (sym c.has_room.ensures ∙ c.if-not-has_room.true))

pub returns : goal.returns
returns c =
    let a = c.args in
    let whole = seen_whole a.ledger a.journal.now _ _ c.look.ensures (c.is_none.ensures ∙ ap not c.if-is_none.false) in
    judged_room a.ledger a.shares a.line a.length a.journal.now (omega arith) (omega arith) (omega arith) (omega arith) true whole
    (rw (← c.entry_size.ensures.0) (sym c.has_room.ensures ∙ c.if-not-has_room.false))

-- `orders::outgoing` meets its contract.
-- Assumes nothing.
use mathlib.Core.Path.{◌≡◌, sym, ap, ◌∙◌}
use mathlib.Core.Bool.{true, false, not}
use native.Mathlib.Omega.{arith}
use borrow.Author.Tests.{not-true, not-false, lt-ltb, eqb-true}
use lib.Dec.{eqb}
use Rattle.memory.specs.Sizes.{lines}
use Rattle.layout.specs.Layout.{number_at}
use Rattle.line.specs.Line.{within_limits}
use Rattle.numbers.specs.Changes.{is_within, is_reader}
use Rattle.numbers.proofs.Changes.{within_facts, not_within}
use Rattle.numbers.proofs.Numbers.{line_within}
use Rattle.orders.proofs.Ways.{record_there, fetch_no_line, fetch_size, fetch_beyond, fetched_from, fetched_reply}
use Rattle.orders.proofs.outgoing.Goals as goal

pub returns-then-i-ge-LINES : goal.returns-then-i-ge-LINES
returns-then-i-ge-LINES c =
    let a = c.args in
    fetch_no_line a.numbers.now a.line a.unfinished.now a.out.now (omega arith) c.refused_with.ensures

pub returns-then-unfinished-ne-UNFINISHED_SIZE : goal.returns-then-unfinished-ne-UNFINISHED_SIZE
returns-then-unfinished-ne-UNFINISHED_SIZE c =
    let a = c.args in
    fetch_size a.numbers.now a.line a.unfinished.now a.out.now (omega arith) c.if-unfinished-ne-UNFINISHED_SIZE.true c.refused_with-then-unfinished-ne-UNFINISHED_SIZE.ensures

pub returns-then-not-is_within : goal.returns-then-not-is_within
returns-then-not-is_within c =
    let a = c.args in
    fetch_beyond a.numbers.now a.line a.unfinished.now a.out.now (omega arith) c.if-unfinished-ne-UNFINISHED_SIZE.false
    (not_within a.numbers.now a.line (omega arith) (sym c.is_within.ensures ∙ c.if-not-is_within.true)) c.refused_with-then-not-is_within.ensures

pub returns-then-is_reader : goal.returns-then-is_reader
unfolding is_reader
returns-then-is_reader c =
    let within : (let a = c.args in is_within a.numbers.now a.line ≡ true) = sym c.is_within.ensures ∙ c.if-not-is_within.false in
    let spoken : (let a = c.args in c.is_reader.result ≡ not (eqb (number_at a.numbers.now a.line 10) 0)) = let a = c.args in c.is_reader.ensures ∙ rw (lt-ltb a.line lines (omega arith)) in
    let in_blocks : (let a = c.args in eqb (number_at a.numbers.now a.line 10) 0 ≡ false) = not-true _ (sym spoken ∙ c.if-is_reader.true) in
    let a = c.args in
    fetched_reply a.numbers.now a.line a.unfinished.now a.out.now (omega arith) c.if-unfinished-ne-UNFINISHED_SIZE.false (within_facts a.numbers.now a.line within).1
    in_blocks c.replied_of-reply.ensures c.fetch_reply.ensures

pub fetch-requires : goal.fetch-requires
unfolding is_reader
fetch-requires c =
    let within : (let a = c.args in is_within a.numbers.now a.line ≡ true) = sym c.is_within.ensures ∙ c.if-not-is_within.false in
    let spoken : (let a = c.args in c.is_reader.result ≡ not (eqb (number_at a.numbers.now a.line 10) 0)) = let a = c.args in c.is_reader.ensures ∙ rw (lt-ltb a.line lines (omega arith)) in
    let in_frames : (let a = c.args in number_at a.numbers.now a.line 10 ≡ 0) = let a = c.args in
    eqb-true (number_at a.numbers.now a.line 10) 0 (not-false _ (sym spoken ∙ c.if-is_reader.false)) in
    let a = c.args in
    let within-numbers = (within_facts a.numbers.now a.line within).1 in (
      omega arith,
      ap within_limits (c.record_of-line.ensures ∙ record_there a.numbers.now a.line within) ∙ line_within a.numbers.now a.line within-numbers in_frames,
      c.if-unfinished-ne-UNFINISHED_SIZE.false,
    )

pub returns : goal.returns
unfolding is_reader
returns c =
    let within : (let a = c.args in is_within a.numbers.now a.line ≡ true) = sym c.is_within.ensures ∙ c.if-not-is_within.false in
    let spoken : (let a = c.args in c.is_reader.result ≡ not (eqb (number_at a.numbers.now a.line 10) 0)) = let a = c.args in c.is_reader.ensures ∙ rw (lt-ltb a.line lines (omega arith)) in
    let in_frames : (let a = c.args in number_at a.numbers.now a.line 10 ≡ 0) = let a = c.args in
    eqb-true (number_at a.numbers.now a.line 10) 0 (not-false _ (sym spoken ∙ c.if-is_reader.false)) in
    let a = c.args in
    fetched_from a.numbers.now a.line a.unfinished.now a.out.now (omega arith) c.if-unfinished-ne-UNFINISHED_SIZE.false (within_facts a.numbers.now a.line within).1
    in_frames (c.record_of-line.ensures ∙ record_there a.numbers.now a.line within) c.fetch.ensures

-- `faults::judging::check_header` meets its contract: each answer under the tests that led to it.
-- Assumes nothing.
use mathlib.Core.Path.{◌≡◌, sym, ◌∙◌}
use mathlib.Core.Bool.{true}
use Rattle.kinds.specs.Header.{is_header}
use Rattle.kinds.specs.Delimiters.{are_delimiters}
use Rattle.faults.specs.Faults.{header_step}
use Rattle.faults.proofs.judging.check_header.Goals as goal

pub returns-then-not-is_header : goal.returns-then-not-is_header
unfolding header_step
returns-then-not-is_header c =
    let told : (let a = c.args in is_header a.d a.rec.now ≡ c.is_header.result) = c.requires ∙ sym c.is_header.ensures in
    simp (told ∙ c.if-not-is_header.true)

pub returns-then-not-are_delimiters : goal.returns-then-not-are_delimiters
unfolding header_step
returns-then-not-are_delimiters c =
    let told : (let a = c.args in is_header a.d a.rec.now ≡ c.is_header.result) = c.requires ∙ sym c.is_header.ensures in
    let head : (let a = c.args in is_header a.d a.rec.now ≡ true) = told ∙ c.if-not-is_header.false in
    simp (head, sym c.are_delimiters.ensures ∙ c.if-not-are_delimiters.true)

pub returns-then-last : goal.returns-then-last
unfolding header_step
returns-then-last c =
    let told : (let a = c.args in is_header a.d a.rec.now ≡ c.is_header.result) = c.requires ∙ sym c.is_header.ensures in
    let head : (let a = c.args in is_header a.d a.rec.now ≡ true) = told ∙ c.if-not-is_header.false in
    let four : are_delimiters c.args.d ≡ true = sym c.are_delimiters.ensures ∙ c.if-not-are_delimiters.false in
    simp (head, four, c.if-last.true)

pub returns : goal.returns
unfolding header_step
returns c =
    let told : (let a = c.args in is_header a.d a.rec.now ≡ c.is_header.result) = c.requires ∙ sym c.is_header.ensures in
    let head : (let a = c.args in is_header a.d a.rec.now ≡ true) = told ∙ c.if-not-is_header.false in
    let four : are_delimiters c.args.d ≡ true = sym c.are_delimiters.ensures ∙ c.if-not-are_delimiters.false in
    simp (head, four, c.if-last.false)

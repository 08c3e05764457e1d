-- `escaping::without_escapes::measure` meets its contract: what is counted, with what is left, is all.
-- Assumes nothing.
use Rattle.std.specs.Prelude.{None}
use borrow.Author.Rules.{rules}
use mathlib.Core.Path.{◌≡◌, sym, ◌∙◌}
use Prim.Native.Nat.{◌+◌, ◌-◌, ◌<◌}
use native.Mathlib.Omega.{arith}
use lib.ListN.{length, get_or}
use Rattle.memory.proofs.Tests.{never_both}
use Rattle.escaping.specs.Unescape.{unescaped}
use Rattle.escaping.specs.Inner.Passes.{measured}
use Rattle.escaping.proofs.Unescapes.{EscapeAt, itself_gives, bare_refused, escape_one_byte, no_escape, size_start, size_wrong, size_next, size_end}
use Rattle.escaping.proofs.without_escapes.measure.Goals as goal

pub loop-i-init : goal.loop-i-init
unfolding measured
loop-i-init c = record { i_within = search rules; less_within = search rules; counted = size_start (unescaped c.args.d c.args.text.now) }

pub returns-then-text-i-lt3 : goal.returns-then-text-i-lt3
returns-then-text-i-lt3 c =
    let no_escape_here : (let a = c.args in
    (EscapeAt a.d a.text.now c.loop-i.i → ⊥) → None ≡ measured a.d a.text.now) = λ none. let l = c.loop-i in
    let a = c.args in
    let lt : l.i < length a.text.now = omega arith in
    size_wrong a.d a.text.now l.i (l.i - l.less) l.invariant.counted (no_escape a.d a.text.now l.i lt c.if-b-d.true none) in
    no_escape_here (λ e. omega arith)

pub returns-then-not-is_letter : goal.returns-then-not-is_letter
returns-then-not-is_letter c =
    let no_escape_here : (let a = c.args in
    (EscapeAt a.d a.text.now c.loop-i.i → ⊥) → None ≡ measured a.d a.text.now) = λ none. let l = c.loop-i in
    let a = c.args in
    let lt : l.i < length a.text.now = omega arith in
    size_wrong a.d a.text.now l.i (l.i - l.less) l.invariant.counted (no_escape a.d a.text.now l.i lt c.if-b-d.true none) in
    let other = sym c.is_letter.ensures ∙ c.if-not-is_letter.true in
    no_escape_here (λ e. never_both _ e.letter other)

pub returns-then-text-i : goal.returns-then-text-i
returns-then-text-i c =
    let no_escape_here : (let a = c.args in
    (EscapeAt a.d a.text.now c.loop-i.i → ⊥) → None ≡ measured a.d a.text.now) = λ none. let l = c.loop-i in
    let a = c.args in
    let lt : l.i < length a.text.now = omega arith in
    size_wrong a.d a.text.now l.i (l.i - l.less) l.invariant.counted (no_escape a.d a.text.now l.i lt c.if-b-d.true none) in
    no_escape_here (λ e. c.if-text-i.true e.closes)

pub returns-then-letter_of-ne0 : goal.returns-then-letter_of-ne0
returns-then-letter_of-ne0 c =
    let l = c.loop-i in
    let a = c.args in
    let lt : l.i < length a.text.now = omega arith in
    let wrong = bare_refused a.d a.text.now l.i lt c.if-b-d.false (λ e. c.if-letter_of-ne0.true (c.letter_of.ensures _ c.requires ∙ e)) in
    size_wrong a.d a.text.now l.i (l.i - l.less) l.invariant.counted wrong

pub loop-i-preserved : goal.loop-i-preserved
loop-i-preserved c =
    let l = c.loop-i in
    let a = c.args in
    let lt : l.i < length a.text.now = omega arith in
    let r = itself_gives a.d a.text.now l.i lt c.if-b-d.false (sym (c.letter_of.ensures _ c.requires) ∙ c.if-letter_of-ne0.false) in
    record {
      i_within = omega arith;
      less_within = omega arith;
      counted = size_next a.d a.text.now l.i (l.i - l.less) l.invariant.counted (get_or a.text.now l.i 0) (l.i + 1) (l.i + 1 - l.less) (omega arith) r;
    }

pub returns : goal.returns
returns c =
    let l = c.loop-i in
    let a = c.args in
    size_end a.d a.text.now l.i (l.i - l.less) l.invariant.counted (omega arith)

pub loop-i-preserved-then-b-d : goal.loop-i-preserved-then-b-d
loop-i-preserved-then-b-d c =
    let l = c.loop-i in
    let a = c.args in
    let letter = sym c.is_letter.ensures ∙ c.if-not-is_letter.false in
    let e : EscapeAt a.d a.text.now l.i = record { whole = omega arith; opens = c.if-b-d.true; letter = letter; closes = c.if-text-i.false } in
    let (x, r) = escape_one_byte a.d a.text.now l.i e in
    record {
      i_within = omega arith;
      less_within = omega arith;
      counted = size_next a.d a.text.now l.i (l.i - l.less) l.invariant.counted x (l.i + 3) (l.i + 3 - (l.less + 2)) (omega arith) r;
    }

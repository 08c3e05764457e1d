-- `decimal::writing::put_long` meets its contract: the digits behind `from` are written, and those of rest are still to be, up to there.
-- Assumes nothing.
use mathlib.Core.Path.{◌≡◌, refl, sym, ap, ◌∙◌}
use mathlib.Core.List.{List, [], ◌++◌, append_assoc, append-nil}
use Prim.Native.Nat.{ℕ, ◌+◌, ◌-◌, ◌/◌, ◌%◌, ◌≤◌}
use native.Mathlib.Omega.{arith}
use borrow.Author.Rules.{rules}
use lib.ListN.{length}
use Rattle.memory.specs.Parts.{splice}
use Rattle.memory.proofs.Parts.{splice_nil, splice_join_front, length_splice}
use Rattle.decimal.specs.Decimal.{decimal_of}
use Rattle.decimal.specs.Inner.Groups.{two_digits}
use Rattle.decimal.proofs.Digits.{last_two, two_longer}
use Rattle.decimal.proofs.writing.put_long.Invariants.{Written}
use Rattle.decimal.proofs.writing.put_long.Goals as goal

-- two digits more, at e
more : (n : ℕ) (out₀ : List ℕ) (at end : ℕ) (out : List ℕ) (rest from e : ℕ) (out' : List ℕ) → 100 ≤ rest → from ≡ e + 2 → out' ≡ splice out e (two_digits (rest % 100))
    → Written n out₀ at end out rest from → Written n out₀ at end out' (rest / 100) e
more n out₀ at end out rest from e out' h g k w =
    let two : List ℕ = two_digits (rest % 100) in
    let longer = two_longer rest h in
    let r = w.room in
    let there = w.here in
    let size = w.long in
    record {
      done = two ++ w.done;
      text = w.text ∙ rw (last_two rest h) (append_assoc (decimal_of (rest / 100)) two w.done);
      whole = w.whole;
      here = omega arith;
      room = omega arith;
      same = k ∙ ap (λ (d : List ℕ). splice d e two) (w.same ∙ ap (λ (i : ℕ). splice out₀ i w.done) g) ∙ splice_join_front out₀ e two w.done (omega arith);
      long = ap length k ∙ length_splice out e two (omega arith) ∙ size;
    }

pub loop-rest-init : goal.loop-rest-init
loop-rest-init c =
    let a = c.args in
    let k = c.size.ensures.0 in
    record {
      done = [];
      text = sym (append-nil (decimal_of a.n));
      whole = omega (arith, k);
      here = omega (arith, k);
      room = omega (arith, k, c.requires);
      same = sym (splice_nil a.out.now (a.at + c.size.result));
      long = refl;
    }

pub loop-rest-preserved : goal.loop-rest-preserved
loop-rest-preserved c =
    let two_left : (2 ≤ c.loop-rest.from) × (c.loop-rest.from ≤ length c.loop-rest.out) = let l = c.loop-rest in
    let w = l.invariant in
    (omega (arith, w.here, two_longer l.rest (omega arith)), omega (arith, w.room, w.long)) in
    let l = c.loop-rest in
    let a = c.args in
    let e : l.from ≡ l.from - 2 + 2 = omega (arith, two_left.0) in
    more a.n a.out.now a.at _ l.out l.rest l.from (l.from - 2) _ (omega arith) e c.put_two.ensures l.invariant

pub put_short-requires : goal.put_short-requires
put_short-requires c =
    let w = c.loop-rest.invariant in
    (omega arith, omega (arith, w.here, w.room, w.long))

pub shape_of-out : goal.shape_of-out
shape_of-out c = omega (arith, c.put_short, c.loop-rest.invariant.long)

pub returns : goal.returns
returns c =
    let l = c.loop-rest in
    let a = c.args in
    let w = l.invariant in (
      w.whole,
      c.put_short.ensures.1
          ∙ rw (w.same, w.here, w.text) (splice_join_front a.out.now a.at (decimal_of l.rest) w.done (omega (arith, w.room, w.here))),
    )

pub overflow_sub-from : goal.overflow_sub-from
overflow_sub-from c =
    let two_left : (2 ≤ c.loop-rest.from) × (c.loop-rest.from ≤ length c.loop-rest.out) = let l = c.loop-rest in
    let w = l.invariant in
    (omega (arith, w.here, two_longer l.rest (omega arith)), omega (arith, w.room, w.long)) in
    two_left.0

pub put_two-requires : goal.put_two-requires
put_two-requires c =
    let two_left : (2 ≤ c.loop-rest.from) × (c.loop-rest.from ≤ length c.loop-rest.out) = let l = c.loop-rest in
    let w = l.invariant in
    (omega (arith, w.here, two_longer l.rest (omega arith)), omega (arith, w.room, w.long)) in
    (search rules, omega (arith, two_left))

-- `sequence::number` meets its contract: what is passed are digits, and n is their decimal.
-- Assumes nothing.
use Prim.Native.Nat.{◌-◌, ◌≤◌}
use mathlib.Core.Path.{◌≡◌, refl, sym, ◌∙◌}
use native.Mathlib.Omega.{arith}
use mathlib.Core.Bool.{true}
use lib.Dec.{leb}
use borrow.Author.Tests.{leb-true}
use lib.ListN.{length, get_or, drop_of_length-le}
use Rattle.memory.proofs.Tests.{and_right, all_stop, all_next, all_done}
use Rattle.sequence.specs.Numbers.{is_digit, decimal}
use Rattle.sequence.proofs.Decimal.{decimal_more, tenfold, six_digits, number_none, number_long, number_zero, number_bad, number_is}
use Rattle.sequence.proofs.number.Goals as goal

pub returns-then-f-eq0 : goal.returns-then-f-eq0
returns-then-f-eq0 c = number_none _ c.if-f-eq0.true

pub returns-then-f-gt6 : goal.returns-then-f-gt6
returns-then-f-gt6 c = number_long _ c.if-f-gt6.true

pub returns-then-f-eq48 : goal.returns-then-f-eq48
returns-then-f-eq48 c = number_zero c.args.f.now c.if-f-eq48.true

pub loop-b-init : goal.loop-b-init
loop-b-init c = record { small = omega arith; value = refl; digits = refl }

pub overflow_mul-n : goal.overflow_mul-n
overflow_mul-n c = omega (arith, six_digits _ _ c.loop-b.invariant.small (omega arith))

pub overflow_add-n : goal.overflow_add-n
overflow_add-n c = omega (arith, six_digits _ _ c.loop-b.invariant.small (omega arith))

pub returns : goal.returns
returns c =
    let f = c.args.f.now in
    let le : length f ≤ c.loop-b.b-index = omega arith in
    let v : c.loop-b.n ≡ decimal 0 f = rw (drop_of_length-le f) at c.loop-b.invariant.value in
    v ∙ number_is f (omega arith) (omega arith) c.if-f-eq48.false (all_done is_digit f c.loop-b.b-index le c.loop-b.invariant.digits)

pub returns-then-not-is_ascii_digit : goal.returns-then-not-is_ascii_digit
returns-then-not-is_ascii_digit c =
    let f = c.args.f.now in
    number_bad f (all_stop is_digit f c.loop-b.b-index c.loop-b-test.true (sym c.is_ascii_digit.ensures.value ∙ c.if-not-is_ascii_digit.true) c.loop-b.invariant.digits)

pub loop-b-preserved : goal.loop-b-preserved
loop-b-preserved c =
    let f = c.args.f.now in
    let l = c.loop-b in
    let b = get_or f l.b-index 0 in
    let digit : is_digit b ≡ true = sym c.is_ascii_digit.ensures.value ∙ c.if-not-is_ascii_digit.false in
    let most = leb-true b 0x39 (and_right (leb 0x30 b) (leb b 0x39) digit) in
    record {
      small = tenfold l.n (b - 0x30) l.b-index l.invariant.small (omega arith);
      value = sym (decimal_more l.n f l.b-index c.loop-b-test.true) ∙ l.invariant.value;
      digits = all_next is_digit f l.b-index c.loop-b-test.true digit l.invariant.digits;
    }

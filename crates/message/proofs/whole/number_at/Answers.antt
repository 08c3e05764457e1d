-- `message::whole::number_at` meets its contract: what it has passed are digits of the field, which b or CR ends.
-- Assumes nothing.
use Rattle.std.proofs.Common.{◌≡◌, get_or, arith, eq-eqb, ne_eqb}
use Rattle.characters.specs.Control.{cr}
use Rattle.sequence.proofs.Decimal.{read_none, read_all, read_bad, read_long, read_zero, read_more, six_digits, not_digit}
use Rattle.message.proofs.Starting.{field_at, ends_at_b, ends_at_cr, field_goes, field_byte, digit_byte}
use Rattle.message.proofs.whole.number_at.Goals as goal

pub loop-i-init : goal.loop-i-init
loop-i-init c = read_none (field_at c.args.b c.args.text.now)

pub returns-then-c-b : goal.returns-then-c-b
returns-then-c-b c =
    read_all (field_at c.args.b c.args.text.now) c.loop-i.n c.loop-i.i c.loop-i.invariant
    (ends_at_b c.args.b c.args.text.now c.requires c.loop-i.i c.loop-i.invariant.within (eq-eqb _ _ c.if-c-b.true))

pub returns-then-c-eq-CR : goal.returns-then-c-eq-CR
returns-then-c-eq-CR c =
    read_all (field_at c.args.b c.args.text.now) c.loop-i.n c.loop-i.i c.loop-i.invariant
    (ends_at_cr c.args.b c.args.text.now c.requires c.loop-i.i c.loop-i.invariant.within (eq-eqb _ _ c.if-c-eq-CR.true))

pub returns-then-v-gt9 : goal.returns-then-v-gt9
returns-then-v-gt9 c =
    let s = c.args.text.now in
    let b = c.args.b in
    let i = c.loop-i.i in
    let lt = field_goes b s c.requires i c.loop-i.invariant.within (ne_eqb _ _ c.if-c-b.false) (ne_eqb (get_or s i 0) cr c.if-c-eq-CR.false) in
    let same : get_or (field_at b s) i 0 ≡ get_or s i 0 = field_byte b s c.requires i c.loop-i.invariant.within lt in
    read_bad (field_at b s) c.loop-i.n i c.loop-i.invariant lt (rw same (not_digit (get_or s i 0) (λ h. omega (arith, h, c.wrapping_sub_u8-v.ensures.value))))

pub overflow_mul-n : goal.overflow_mul-n
overflow_mul-n c = omega (arith, six_digits c.loop-i.n c.loop-i.i c.loop-i.invariant.small c.loop-i.invariant.few)

pub overflow_add-n : goal.overflow_add-n
overflow_add-n c = omega (arith, six_digits c.loop-i.n c.loop-i.i c.loop-i.invariant.small c.loop-i.invariant.few)

pub returns-then-n-eq0 : goal.returns-then-n-eq0
returns-then-n-eq0 c =
    let a = c.args in
    let v = c.wrapping_sub_u8-v.result in
    let (lt, digit) = digit_byte a.b a.text.now c.requires c.loop-i.i c.loop-i.invariant.within (ne_eqb _ _ c.if-c-b.false) v (omega (arith, c.wrapping_sub_u8-v.ensures.value)) (omega arith) in
    read_zero (field_at a.b a.text.now) c.loop-i.n c.loop-i.i c.loop-i.invariant lt v digit (omega arith) (omega (arith, c.if-n-eq0.true))

pub loop-i-preserved : goal.loop-i-preserved
loop-i-preserved c =
    let a = c.args in
    let v = c.wrapping_sub_u8-v.result in
    let (lt, digit) = digit_byte a.b a.text.now c.requires c.loop-i.i c.loop-i.invariant.within (ne_eqb _ _ c.if-c-b.false) v (omega (arith, c.wrapping_sub_u8-v.ensures.value)) (omega arith) in
    read_more (field_at a.b a.text.now) c.loop-i.n c.loop-i.i c.loop-i.invariant lt v digit (omega arith) (λ e. omega arith) (λ z. omega (arith, z, c.if-n-eq0.false))

-- behind six digits
pub returns-then-text-b : goal.returns-then-text-b
returns-then-text-b c =
    let six : c.loop-i.i ≡ 6 = omega arith in
    let at : get_or c.args.text.now c.loop-i.i 0 ≡ c.args.b = rw six c.if-text-b.true in
    read_all (field_at c.args.b c.args.text.now) c.loop-i.n c.loop-i.i c.loop-i.invariant
    (ends_at_b c.args.b c.args.text.now c.requires c.loop-i.i c.loop-i.invariant.within (eq-eqb _ _ at))

pub returns-then-text-eq-CR : goal.returns-then-text-eq-CR
returns-then-text-eq-CR c =
    let six : c.loop-i.i ≡ 6 = omega arith in
    let at : get_or c.args.text.now c.loop-i.i 0 ≡ cr = rw six c.if-text-eq-CR.true in
    read_all (field_at c.args.b c.args.text.now) c.loop-i.n c.loop-i.i c.loop-i.invariant
    (ends_at_cr c.args.b c.args.text.now c.requires c.loop-i.i c.loop-i.invariant.within (eq-eqb _ _ at))

pub returns : goal.returns
returns c =
    let s = c.args.text.now in
    let six : c.loop-i.i ≡ 6 = omega arith in
    let no_b : get_or s c.loop-i.i 0 ≡ c.args.b → ⊥ = rw six c.if-text-b.false in
    let no_cr : get_or s c.loop-i.i 0 ≡ cr → ⊥ = rw six c.if-text-eq-CR.false in
    let goes = field_goes c.args.b s c.requires c.loop-i.i c.loop-i.invariant.within (ne_eqb _ _ no_b) (ne_eqb _ _ no_cr) in
    read_long (field_at c.args.b s) c.loop-i.n c.loop-i.i c.loop-i.invariant goes six

-- `listing::reading::amount_of` meets its contract: what is passed are digits, and n is their decimal, not yet over the limit.
-- Assumes nothing.
use Rattle.std.specs.Prelude.{Some}
use Rattle.std.proofs.Common.{◌≡◌, ℕ, ◌+◌, ◌-◌, ◌*◌, ◌<◌, ◌≤◌, List, length, get_or, take, drop, sym, ap, ◌∙◌, arith, drop_of_length-le, get_or-take, get_or-drop, length-take, length-drop, min}
use Rattle.memory.proofs.Tests.{between_yes, between_low, between_high, all_stop, all_next, all_done}
use Rattle.sequence.specs.Numbers.{is_digit, decimal}
use Rattle.sequence.proofs.Decimal.{decimal_more}
use Rattle.listing.specs.Items.{operand_at}
use Rattle.listing.proofs.Operands.{amount_bad, amount_large, amount_is, decimal_grows}
use Rattle.listing.proofs.reading.amount_of.Goals as goal

-- the operand's byte j is the text's at its place
abbrev operand : List ℕ → List ℕ
operand t = take (length t - operand_at) (drop operand_at t)

inside : (t : List ℕ) (j : ℕ) → j < length (operand t) → operand_at + j < length t
inside t j h = let k : j < min (length t - operand_at) (length t - operand_at) = simp (length-take, length-drop) at h in omega arith

here : (t : List ℕ) (j : ℕ) → j < length (operand t) → get_or (operand t) j 0 ≡ get_or t (operand_at + j) 0
here t j h =
    let k : j < length t - operand_at = omega (arith, inside t j h) in
    rw (get_or-take, get_or-drop)

-- a digit more
grown : (t : List ℕ) (j n x : ℕ) → j < length (operand t) → x ≡ get_or (operand t) j 0 - 0x30 → decimal n (drop (operand_at + j) t) ≡ decimal 0 (drop operand_at t)
    → decimal (n * 10 + x) (drop (operand_at + j + 1) t) ≡ decimal 0 (drop operand_at t)
grown t j n x h e k = rw (e, here t j h) (sym (decimal_more n t (operand_at + j) (inside t j h)) ∙ k)

pub returns-in_default : goal.returns-in_default
returns-in_default c =
    let l = c.loop-b in
    let t : List ℕ = c.args.text.now in
    let i = operand_at + l.b-index in
    let lt = c.loop-b-test.true in
    let low : get_or t i 0 < 0x30 = omega (arith, here t l.b-index lt) in
    amount_bad c.args.most (drop operand_at t) (all_stop is_digit t i (inside t l.b-index lt) (between_low 0x30 0x39 (get_or t i 0) low) l.invariant.2)

pub returns-in_default-2 : goal.returns-in_default-2
returns-in_default-2 c =
    let l = c.loop-b in
    let t : List ℕ = c.args.text.now in
    let i = operand_at + l.b-index in
    let lt = c.loop-b-test.true in
    let high : 0x39 < get_or t i 0 = omega (arith, here t l.b-index lt) in
    amount_bad c.args.most (drop operand_at t) (all_stop is_digit t i (inside t l.b-index lt) (between_high 0x30 0x39 (get_or t i 0) high) l.invariant.2)

pub returns-then-most-n : goal.returns-then-most-n
returns-then-most-n c =
    let l = c.loop-b in
    let t : List ℕ = c.args.text.now in
    let n = l.n * 10 + c.from.result in
    let g = grown t l.b-index l.n c.from.result c.loop-b-test.true c.from.ensures l.invariant.1 in
    amount_large c.args.most (drop operand_at t) (omega (arith, g, decimal_grows n (drop (operand_at + l.b-index + 1) t)))

pub loop-b-preserved : goal.loop-b-preserved
loop-b-preserved c =
    let l = c.loop-b in
    let t : List ℕ = c.args.text.now in
    let i = operand_at + l.b-index in
    let lt = c.loop-b-test.true in
    let next : operand_at + (l.b-index + 1) ≡ i + 1 = omega arith in
    let low : 0x30 ≤ get_or t i 0 = omega (arith, here t l.b-index lt) in
    let high : get_or t i 0 ≤ 0x39 = omega (arith, here t l.b-index lt) in
    rw next (
      c.if-most-n.false,
      grown t l.b-index l.n c.from.result lt c.from.ensures l.invariant.1,
      all_next is_digit t i (inside t l.b-index lt) (between_yes 0x30 0x39 (get_or t i 0) low high) l.invariant.2,
    )

pub returns : goal.returns
returns c =
    let l = c.loop-b in
    let a = c.args in
    let t : List ℕ = a.text.now in
    let past : length t ≤ operand_at + l.b-index = omega arith in
    let v : l.n ≡ decimal 0 (drop operand_at t) = rw (drop_of_length-le t) at l.invariant.1 in
    ap Some v ∙ amount_is a.most (drop operand_at t) (all_done is_digit t (operand_at + l.b-index) past l.invariant.2) (omega (arith, v, l.invariant.0))

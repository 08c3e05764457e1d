-- `packed::write_field` meets its contract. The loop's invariant: the bytes from i on are written, and rest is what they leave of n.
-- Assumes nothing.
use mathlib.Core.Path.{◌≡◌, sym, ◌∙◌}
use Prim.Native.Nat.{ℕ, ◌+◌, ◌-◌, ◌^◌}
use native.Mathlib.Nat.{div-one, sub_self}
use native.Mathlib.Omega.{arith}
use borrow.Author.Tests.{leb-true, leb-false}
use Rattle.packed.specs.Fields.{width, octets}
use Rattle.memory.proofs.Parts.{splice_nil}
use Rattle.packed.proofs.Octets.{write_more, rest_more, written_outside, written_large, written_yes}
use Rattle.packed.proofs.write_field.Goals as goal

pub returns-then-size-gt-LONGEST_FIELD : goal.returns-then-size-gt-LONGEST_FIELD
returns-then-size-gt-LONGEST_FIELD c = let a = c.args in written_outside a.area.now a.at a.size a.n (λ h k. omega arith)

pub returns-then-area-at : goal.returns-then-area-at
returns-then-area-at c = let a = c.args in written_outside a.area.now a.at a.size a.n (λ h k. omega arith)

pub returns-then-area-at-2 : goal.returns-then-area-at-2
returns-then-area-at-2 c = let a = c.args in written_outside a.area.now a.at a.size a.n (λ h k. omega arith)

pub returns-then-exceeds : goal.returns-then-exceeds
returns-then-exceeds c =
    let a = c.args in
    let large = leb-true (2 ^ width (octets a.size)) a.n (sym c.exceeds.ensures ∙ c.if-exceeds.true) in
    written_large a.area.now a.at a.size a.n large

pub loop-i-init : goal.loop-i-init
loop-i-init c =
    let a = c.args in
    let end : ℕ = a.at + a.size in
    record { low = omega arith; same = rw (sub_self end) (sym (splice_nil a.area.now end)); left = rw (sub_self end) (sym (div-one a.n)) }

pub loop-i-preserved : goal.loop-i-preserved
loop-i-preserved c =
    let l = c.loop-i in
    let a = c.args in
    let k : ℕ = a.at + a.size - l.i in
    let more : a.at + a.size - (l.i - 1) ≡ k + 1 = omega arith in
    record {
      low = omega arith;
      same = rw (more, l.invariant.same, l.invariant.left) (write_more a.area.now (l.i - 1) l.i k a.n (omega arith) (omega arith));
      left = rw (more, l.invariant.left) (rest_more a.n k);
    }

pub returns : goal.returns
returns c =
    let l = c.loop-i in
    let a = c.args in
    let first : l.i ≡ a.at = omega arith in
    let all : a.at + a.size - a.at ≡ a.size = omega arith in
    written_yes a.area.now a.at a.size a.n (omega arith) (omega arith)
    (leb-false (2 ^ width (octets a.size)) a.n (sym c.exceeds.ensures ∙ c.if-exceeds.false))
    (l.invariant.same ∙ rw (first, all))

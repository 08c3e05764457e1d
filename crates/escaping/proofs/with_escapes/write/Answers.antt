-- `escaping::with_escapes::write` meets its contract: what is stored, with what is left to store, is all.
-- Assumes nothing.
use mathlib.Core.Path.{◌≡◌, refl, sym, ◌∙◌}
use Prim.Native.Nat.{ℕ, ◌+◌, ◌≤◌}
use native.Mathlib.Omega.{arith}
use lib.ListN.{length, drop, length-set, drop_of_length-le}
use Rattle.escaping.specs.Escape.{escaped}
use Rattle.escaping.proofs.Escapes.{put_one, put_three, one_less, three_less}
use Rattle.escaping.proofs.with_escapes.write.Goals as goal
use Rattle.escaping.proofs.with_escapes.write.Goals.{then-l-eq0, else-l-eq0}

pub loop-b-init : goal.loop-b-init
loop-b-init c = record { out_length = refl; counted = omega arith; all_stored_law = refl }

pub loop-b-preserved : goal.loop-b-preserved
loop-b-preserved c =
    let l = c.loop-b in
    let a = c.args in
    let letter = c.letter_of-l in
    let letter_is = letter.ensures _ c.requires.0 in
    elim c.if-l-eq0.branch [
      | then-l-eq0 w ↦
          let own = sym letter_is ∙ w.if-l-eq0.true in
          let one = one_less a.d a.text.now l.b-index l.o _ (omega arith) own l.invariant.counted in
          rw (w.out-is, w.o-is)
          (record {
            out_length = simp length-set (omega arith);
            counted = one;
            all_stored_law = put_one a.d a.text.now l.b-index l.o (omega arith) l.out _ own l.invariant.all_stored_law;
          })
      | else-l-eq0 w ↦
          let three = three_less a.d a.text.now l.b-index l.o _ (omega arith) (λ e. w.if-l-eq0.false (letter_is ∙ e)) l.invariant.counted in
          rw (w.out-is, w.o-is)
          (record {
            out_length = simp length-set (omega arith);
            counted = three;
            all_stored_law = put_three a.d a.text.now l.b-index l.o (omega arith) l.out _ letter.result letter_is w.if-l-eq0.false l.invariant.all_stored_law;
          })
    ]

pub returns : goal.returns
returns c =
    let l = c.loop-b in
    let text = c.args.text.now in
    let le : length text ≤ l.b-index = omega arith in
    let n = rw (drop_of_length-le text le) at l.invariant.counted in
    (omega (arith, n), rw (drop_of_length-le text le) at l.invariant.all_stored_law)

pub bounds-out-o : goal.bounds-out-o
bounds-out-o c =
    let left : ℕ → ℕ = λ i. length (escaped c.args.d (drop i c.args.text.now)) in
    let one : c.loop-b.o + 1 + left (c.loop-b.b-index + 1) ≡ (length (escaped c.args.d c.args.text.now)) = let a = c.args in
    one_less a.d a.text.now c.loop-b.b-index c.loop-b.o _ (omega arith) (sym (c.letter_of-l.ensures _ c.requires.0) ∙ c.if-l-eq0.true) c.loop-b.invariant.counted in
    omega (arith, one, c.requires.1)

pub overflow_add-o : goal.overflow_add-o
overflow_add-o c =
    let left : ℕ → ℕ = λ i. length (escaped c.args.d (drop i c.args.text.now)) in
    let one : c.loop-b.o + 1 + left (c.loop-b.b-index + 1) ≡ (length (escaped c.args.d c.args.text.now)) = let a = c.args in
    one_less a.d a.text.now c.loop-b.b-index c.loop-b.o _ (omega arith) (sym (c.letter_of-l.ensures _ c.requires.0) ∙ c.if-l-eq0.true) c.loop-b.invariant.counted in
    omega (arith, one, c.requires.1)

pub bounds-out-o-else-l-eq0 : goal.bounds-out-o-else-l-eq0
bounds-out-o-else-l-eq0 c =
    let left : ℕ → ℕ = λ i. length (escaped c.args.d (drop i c.args.text.now)) in
    let three : c.loop-b.o + 3 + left (c.loop-b.b-index + 1) ≡ (length (escaped c.args.d c.args.text.now)) = let a = c.args in
    three_less a.d a.text.now c.loop-b.b-index c.loop-b.o _ (omega arith) (λ e. c.if-l-eq0.false (c.letter_of-l.ensures _ c.requires.0 ∙ e)) c.loop-b.invariant.counted in
    omega (arith, three, c.requires.1)

pub overflow_add-out : goal.overflow_add-out
overflow_add-out c =
    let left : ℕ → ℕ = λ i. length (escaped c.args.d (drop i c.args.text.now)) in
    let three : c.loop-b.o + 3 + left (c.loop-b.b-index + 1) ≡ (length (escaped c.args.d c.args.text.now)) = let a = c.args in
    three_less a.d a.text.now c.loop-b.b-index c.loop-b.o _ (omega arith) (λ e. c.if-l-eq0.false (c.letter_of-l.ensures _ c.requires.0 ∙ e)) c.loop-b.invariant.counted in
    omega (arith, three, c.requires.1, c)

pub bounds-out-o-else-l-eq0-2 : goal.bounds-out-o-else-l-eq0-2
bounds-out-o-else-l-eq0-2 c =
    let left : ℕ → ℕ = λ i. length (escaped c.args.d (drop i c.args.text.now)) in
    let three : c.loop-b.o + 3 + left (c.loop-b.b-index + 1) ≡ (length (escaped c.args.d c.args.text.now)) = let a = c.args in
    three_less a.d a.text.now c.loop-b.b-index c.loop-b.o _ (omega arith) (λ e. c.if-l-eq0.false (c.letter_of-l.ensures _ c.requires.0 ∙ e)) c.loop-b.invariant.counted in
    simp length-set (omega (arith, three, c.requires.1))

pub overflow_add-out-else-l-eq0 : goal.overflow_add-out-else-l-eq0
overflow_add-out-else-l-eq0 c =
    let left : ℕ → ℕ = λ i. length (escaped c.args.d (drop i c.args.text.now)) in
    let three : c.loop-b.o + 3 + left (c.loop-b.b-index + 1) ≡ (length (escaped c.args.d c.args.text.now)) = let a = c.args in
    three_less a.d a.text.now c.loop-b.b-index c.loop-b.o _ (omega arith) (λ e. c.if-l-eq0.false (c.letter_of-l.ensures _ c.requires.0 ∙ e)) c.loop-b.invariant.counted in
    omega (arith, three, c.requires.1, c)

pub bounds-out-o-else-l-eq0-3 : goal.bounds-out-o-else-l-eq0-3
bounds-out-o-else-l-eq0-3 c =
    let left : ℕ → ℕ = λ i. length (escaped c.args.d (drop i c.args.text.now)) in
    let three : c.loop-b.o + 3 + left (c.loop-b.b-index + 1) ≡ (length (escaped c.args.d c.args.text.now)) = let a = c.args in
    three_less a.d a.text.now c.loop-b.b-index c.loop-b.o _ (omega arith) (λ e. c.if-l-eq0.false (c.letter_of-l.ensures _ c.requires.0 ∙ e)) c.loop-b.invariant.counted in
    simp length-set (omega (arith, three, c.requires.1))

pub overflow_add-o-else-l-eq0 : goal.overflow_add-o-else-l-eq0
overflow_add-o-else-l-eq0 c =
    let left : ℕ → ℕ = λ i. length (escaped c.args.d (drop i c.args.text.now)) in
    let three : c.loop-b.o + 3 + left (c.loop-b.b-index + 1) ≡ (length (escaped c.args.d c.args.text.now)) = let a = c.args in
    three_less a.d a.text.now c.loop-b.b-index c.loop-b.o _ (omega arith) (λ e. c.if-l-eq0.false (c.letter_of-l.ensures _ c.requires.0 ∙ e)) c.loop-b.invariant.counted in
    omega (arith, three, c.requires.1, c)

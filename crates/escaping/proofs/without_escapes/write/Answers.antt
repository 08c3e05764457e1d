-- `escaping::without_escapes::write` meets its contract: what is stored, with what is left to store, is all.
-- Assumes nothing.
use Rattle.std.specs.Prelude.{Some}
use mathlib.Core.Path.{◌≡◌, refl, sym, ◌∙◌, ap}
use mathlib.Core.List.{List, [], ◌∷◌}
use Prim.Native.Nat.{ℕ, ◌+◌, ◌≤◌, ◌<◌}
use native.Mathlib.Omega.{arith}
use native.Mathlib.Numerals.{add-one}
use native.Mathlib.Decide.{dec_lt}
use lib.ListN.{length, get_or, drop, set, length-set}
use lib.Seq.{sets}
use Rattle.memory.proofs.Tests.{clash}
use Rattle.memory.proofs.Moves.{copied_fits}
use Rattle.memory.proofs.Parts.{sets_splice}
use Rattle.kinds.specs.declared.Delimiters.{Delimiters}
use Rattle.escaping.specs.Unescape.{unescaped}
use Rattle.escaping.specs.Inner.Passes.{measured}
use Rattle.escaping.proofs.Unescapes.{EscapeAt, front_some, itself_gives, itself_there, escape_gives, escape_there, read_end, size_told, reads, as_long}
use Rattle.escaping.proofs.without_escapes.write.Invariants.{Storing}
use Rattle.escaping.proofs.without_escapes.write.Goals as goal

-- where there is a byte to store, there is a byte to read
more_left : (d : Delimiters) (s : List ℕ) (i : ℕ) (t : List ℕ) → unescaped d (drop i s) ≡ Some t → 0 < length t → i < length s
more_left d s i t e h =
    elim (dec_lt i (length s)) [
      | yes p ↦ p
      | no p ↦ let k = read_end d s i (omega arith) in let z : t ≡ [] = cc in absurd (omega (arith, ap length z))
    ]

none_left : (s : List ℕ) → length s ≡ 0 → s ≡ []
none_left [] e = refl
none_left (b ∷ s) e = absurd (omega (arith, e))

-- the first byte of what is left is stored
stored_on : (out : List ℕ) (o : ℕ) {x : ℕ} {t left all : List ℕ} → t ≡ x ∷ left → sets out o t ≡ all → sets (set out o x) (o + 1) left ≡ all
stored_on out o k e = rw (add-one o) (sym (ap (sets out o) k) ∙ e)

-- before the first turn nothing is stored
begun : (d : Delimiters) (text out : List ℕ) (n : ℕ) → (t : List ℕ) × (unescaped d text ≡ Some t) × (n ≡ length t) → Storing d text out out n 0 0
begun d text out n (left, u, long) = record { left = left; accepted = u; out_length = refl; counted = omega (arith, long); all_stored_law = rw u }

pub loop-o-init : goal.loop-o-init
unfolding measured
loop-o-init c =
    begun c.args.d c.args.text.now c.args.out.now c.args.n (size_told (unescaped c.args.d c.args.text.now) c.args.n c.requires.0)

-- a text with no escape is copied
pub returns-then-n-text : goal.returns-then-n-text
unfolding measured
returns-then-n-text c =
    let told : (t : List ℕ) × (unescaped c.args.d c.args.text.now ≡ Some t) × (c.args.n ≡ length t) = size_told (unescaped c.args.d c.args.text.now) c.args.n c.requires.0 in
    let text = c.args.text.now in
    let out = c.args.out.now in
    let (left, u, long) = told in
    let fits : 0 + length text ≤ length out = omega (arith, c.if-n-text.true, c.requires.1) in
    let same : left ≡ text = as_long (reads c.args.d text left u) (sym long ∙ c.if-n-text.true) in
    (copied_fits out 0 text c.copy.ensures fits).1 ∙ sym (sets_splice out 0 text fits) ∙ rw (u, same)

pub loop-o-preserved-then-b-d : goal.loop-o-preserved-then-b-d
loop-o-preserved-then-b-d c =
    let inside : c.loop-o.i < length c.args.text.now = let l = c.loop-o in
    let a = c.args in
    more_left a.d a.text.now l.i l.invariant.left l.invariant.accepted (omega (arith, l.invariant.counted)) in
    let escape_here : EscapeAt c.args.d c.args.text.now c.loop-o.i = let a = c.args in
    escape_there a.d a.text.now c.loop-o.i inside c.if-b-d.true (λ e. let k = c.loop-o.invariant.accepted in clash (cc)) in
    let a = c.args in
    let i = c.loop-o.invariant in
    let r = escape_gives a.d a.text.now c.loop-o.i c.meant-x.result escape_here c.meant-x.ensures in
    let (left, u, k) = front_some c.meant-x.result (unescaped a.d (drop (c.loop-o.i + 3) a.text.now)) i.left (sym r ∙ i.accepted) in
    let long = ap length k in record {
      left = left;
      accepted = u;
      out_length = simp length-set (omega arith);
      counted = omega (arith, long, i.counted);
      all_stored_law = stored_on c.loop-o.out c.loop-o.o k i.all_stored_law;
    }

pub loop-o-preserved : goal.loop-o-preserved
loop-o-preserved c =
    let inside : c.loop-o.i < length c.args.text.now = let l = c.loop-o in
    let a = c.args in
    more_left a.d a.text.now l.i l.invariant.left l.invariant.accepted (omega (arith, l.invariant.counted)) in
    let a = c.args in
    let i = c.loop-o.invariant in
    let lt = inside in
    let z = itself_there a.d a.text.now c.loop-o.i lt c.if-b-d.false i.accepted in
    let r = itself_gives a.d a.text.now c.loop-o.i lt c.if-b-d.false z in
    let (left, u, k) = front_some (get_or a.text.now c.loop-o.i 0) (unescaped a.d (drop (c.loop-o.i + 1) a.text.now)) i.left (sym r ∙ i.accepted) in
    let long = ap length k in record {
      left = left;
      accepted = u;
      out_length = simp length-set (omega arith);
      counted = omega (arith, long, i.counted);
      all_stored_law = stored_on c.loop-o.out c.loop-o.o k i.all_stored_law;
    }

pub returns : goal.returns
returns c =
    let l = c.loop-o in
    rw (none_left l.invariant.left (omega (arith, l.invariant.counted))) at l.invariant.all_stored_law

pub bounds-text-i : goal.bounds-text-i
bounds-text-i c =
    let inside : c.loop-o.i < length c.args.text.now = let l = c.loop-o in
    let a = c.args in
    more_left a.d a.text.now l.i l.invariant.left l.invariant.accepted (omega (arith, l.invariant.counted)) in
    omega (arith, inside)

pub overflow_add-i : goal.overflow_add-i
overflow_add-i c =
    let inside : c.loop-o.i < length c.args.text.now = let l = c.loop-o in
    let a = c.args in
    more_left a.d a.text.now l.i l.invariant.left l.invariant.accepted (omega (arith, l.invariant.counted)) in
    let escape_here : EscapeAt c.args.d c.args.text.now c.loop-o.i = let a = c.args in
    escape_there a.d a.text.now c.loop-o.i inside c.if-b-d.true (λ e. let k = c.loop-o.invariant.accepted in clash (cc)) in
    omega (arith, escape_here.whole)

pub bounds-text-i-then-b-d : goal.bounds-text-i-then-b-d
bounds-text-i-then-b-d c =
    let inside : c.loop-o.i < length c.args.text.now = let l = c.loop-o in
    let a = c.args in
    more_left a.d a.text.now l.i l.invariant.left l.invariant.accepted (omega (arith, l.invariant.counted)) in
    let escape_here : EscapeAt c.args.d c.args.text.now c.loop-o.i = let a = c.args in
    escape_there a.d a.text.now c.loop-o.i inside c.if-b-d.true (λ e. let k = c.loop-o.invariant.accepted in clash (cc)) in
    omega (arith, escape_here.whole)

pub meant-x-requires : goal.meant-x-requires
meant-x-requires c =
    let inside : c.loop-o.i < length c.args.text.now = let l = c.loop-o in
    let a = c.args in
    more_left a.d a.text.now l.i l.invariant.left l.invariant.accepted (omega (arith, l.invariant.counted)) in
    let escape_here : EscapeAt c.args.d c.args.text.now c.loop-o.i = let a = c.args in
    escape_there a.d a.text.now c.loop-o.i inside c.if-b-d.true (λ e. let k = c.loop-o.invariant.accepted in clash (cc)) in
    escape_here.letter

pub overflow_add-i-then-b-d : goal.overflow_add-i-then-b-d
overflow_add-i-then-b-d c =
    let inside : c.loop-o.i < length c.args.text.now = let l = c.loop-o in
    let a = c.args in
    more_left a.d a.text.now l.i l.invariant.left l.invariant.accepted (omega (arith, l.invariant.counted)) in
    let escape_here : EscapeAt c.args.d c.args.text.now c.loop-o.i = let a = c.args in
    escape_there a.d a.text.now c.loop-o.i inside c.if-b-d.true (λ e. let k = c.loop-o.invariant.accepted in clash (cc)) in
    omega (arith, escape_here.whole)

pub overflow_add-i-else-b-d : goal.overflow_add-i-else-b-d
overflow_add-i-else-b-d c =
    let inside : c.loop-o.i < length c.args.text.now = let l = c.loop-o in
    let a = c.args in
    more_left a.d a.text.now l.i l.invariant.left l.invariant.accepted (omega (arith, l.invariant.counted)) in
    omega (arith, inside)

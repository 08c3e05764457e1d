-- Two texts joined at the start of a place.
-- Assumes nothing.
use mathlib.Core.Path.{◌≡◌, refl, sym, ap, ◌∙◌}
use mathlib.Core.Bool.{Bool, true, false}
use mathlib.Core.List.{List, ◌++◌}
use Prim.Native.Nat.{ℕ, ◌+◌, ◌≤◌, ◌<◌}
use native.Mathlib.Nat.{zero-add}
use native.Mathlib.Omega.{arith}
use borrow.Author.Tests.{lt-leb, leb-true, leb-false}
use lib.Dec.{leb}
use lib.ListN.{length, length-append}
use Rattle.memory.specs.Parts.{splice}
use Rattle.memory.specs.Moves.{copied, fits_at, Copied}
use Rattle.memory.proofs.Parts.{part_start, part_splice, length_splice, splice_join}
use Rattle.memory.proofs.Moves.{copied_fits}
use Rattle.memory.proofs.Tests.{clash}
use Rattle.deciding.specs.Inner.Joined.{Joined}

-- copying keeps the length, whether it was done or not
copied_length : (d : List ℕ) (at : ℕ) (s : List ℕ) {r : Bool} {d' : List ℕ} → Copied d at s r d' → length d' ≡ length d
unfolding copied
copied_length d at s {r} {d'} c = by_test_law (fits_at d at s) refl
  where
    by_test_law : (b : Bool) → fits_at d at s ≡ b → length d' ≡ length d
    by_test_law true e =
        let done : d' ≡ splice d at s = c.after ∙ rw e in
        ap length done ∙ length_splice d at s (leb-true (at + length s) (length d) e)
    by_test_law false e = let same : d' ≡ d = c.after ∙ rw e in ap length same

module _ (z old new : List ℕ) where
  -- the first is too long for the place
  pub first_over : (x : List ℕ) {q : Bool} → Copied z 0 old q x → q ≡ false → Joined z old new false x
  first_over x c e =
      let over : length z < 0 + length old = leb-false (0 + length old) (length z) (sym c.answer ∙ e) in
      record {
        fits = sym (lt-leb (length old + length new) (length z) (omega (arith, over)));
        long = copied_length z 0 old c;
        both = λ t. clash cc;
      }

  -- the first is in, and the second fits behind it or does not
  pub first_in : (x y : List ℕ) (q r : Bool) → Copied z 0 old q x → q ≡ true → Copied x (length old) new r y → Joined z old new r y
  first_in x y q r c e d =
      let in_z : 0 + length old ≤ length z = leb-true (0 + length old) (length z) (sym c.answer ∙ e) in
      let first : x ≡ splice z 0 old = (copied_fits z 0 old c in_z).1 in
      let long : length x ≡ length z = copied_length z 0 old c in
      record {
        fits = d.answer ∙ ap (leb (length old + length new)) long;
        long = copied_length x (length old) new d ∙ long;
        both = λ t. let in-x : length old + length new ≤ length x = leb-true (length old + length new) (length x) (sym d.answer ∙ t) in
            let room : 0 + length old + length new ≤ length z = omega (arith, in-x, long) in
            let second : y ≡ splice x (length old) new = (copied_fits x (length old) new d in-x).1 in
            let joined : y ≡ splice z 0 (old ++ new) =
            second ∙ ap (λ (l : List ℕ). splice l (length old) new) first ∙ ap (λ (k : ℕ). splice (splice z 0 old) k new) (sym (zero-add (length old))) ∙ splice_join z 0 old new room in
            let fits : 0 + length (old ++ new) ≤ length z = rw length-append (omega (arith, room)) in
            rw (← length-append old new, joined, ← part_start (splice z 0 (old ++ new)) (length (old ++ new))) (part_splice z 0 (old ++ new) fits);
      }

module _ (z old new : List ℕ) {r : Bool} {z' : List ℕ} (h : Joined z old new r z') where
  pub joined_fits : r ≡ true → length old + length new ≤ length z'
  joined_fits e = let fits = leb-true (length old + length new) (length z) (sym h.fits ∙ e) in omega (arith, fits, h.long)

  pub joined_over : r ≡ false → length z < length (old ++ new)
  joined_over e = rw length-append (leb-false (length old + length new) (length z) (sym h.fits ∙ e))

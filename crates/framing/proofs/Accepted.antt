-- What the shape takes for whole is a frame as it is written: nothing else is accepted.
-- Assumes nothing.
use Rattle.std.specs.Prelude.{Ok}
use Rattle.std.proofs.Common.{◌≡◌, ℕ, suc, ◌-◌, ◌<◌, ◌≤◌, Bool, true, false, cond, eqb, List, [], ◌∷◌, ◌++◌, length, take, drop, sym, refl, ap, ◌∙◌, arith, take-append-drop, drop_of_length-le, drop-cons, take-suc, eqb-true}
use Rattle.memory.specs.Parts.{part}
use Rattle.memory.specs.Tests.{all}
use Rattle.characters.specs.Control.{lf, etx, etb}
use Rattle.characters.specs.Allowed.{allowed}
use Rattle.digits.specs.Number.{most_number, digit_for, is_number, number_from}
use Rattle.frame.specs.Shape.{from_end, digit_in, text_in, counted_in, is_end, end_from, is_ended, is_built, is_checked, inner_of, shape_of}
use Rattle.frame.specs.declared.End.{End}
use Rattle.frame.specs.declared.End.TheVariants.{Etb, Etx}
use Rattle.frame.proofs.Passed.{passed, same_whole, ended_told, built_told, checked_told, number_told}
use Rattle.framing.specs.Writing.{end_byte, body_of, tail_of, collected_of}

-- an end byte is that of the end it stands for
end_byte_law : (b : ℕ) → is_end b ≡ true → b ≡ end_byte (end_from b)
end_byte_law b h = by_test_law (eqb b etx) refl
  where
    by_test_law : (t : Bool) → eqb b etx ≡ t → b ≡ end_byte (cond t Etx Etb)
    by_test_law true e = eqb-true b etx e
    by_test_law false e = eqb-true b etb (rw e at h)

-- the bytes from the front, and from the k-th before the end on
front : (bs : List ℕ) (k : ℕ) → 0 < length bs → take (suc k) bs ≡ digit_in bs ∷ part bs 1 k
unfolding part
front [] k h = absurd (omega arith)
front (b ∷ bs) k h = refl

from_kth : (bs : List ℕ) (k : ℕ) → k < length bs → drop (length bs - suc k) bs ≡ from_end bs (suc k) ∷ drop (length bs - k) bs
from_kth bs k h =
    let next : suc (length bs - suc k) ≡ length bs - k = omega arith in
    drop-cons bs (length bs - suc k) 0 (omega arith) ∙ ap (λ (i : ℕ). from_end bs (suc k) ∷ drop i bs) next

module _ (bs : List ℕ) (six : 6 ≤ length bs) where
  last_four : drop (length bs - 4) bs ≡ from_end bs 4 ∷ from_end bs 3 ∷ from_end bs 2 ∷ from_end bs 1 ∷ []
  last_four =
      let past : length bs ≤ length bs - 0 = omega arith in
      rw (
        from_kth bs 3 (omega arith),
        from_kth bs 2 (omega arith),
        from_kth bs 1 (omega arith),
        from_kth bs 0 (omega arith),
        drop_of_length-le bs past,
      )

  counted : counted_in bs ≡ digit_in bs ∷ (text_in bs ++ (from_end bs 5 ∷ []))
  counted =
      let a : length bs - 4 ≡ suc (length bs - 5) = omega arith in
      let b : length bs - 5 ≡ suc (length bs - 6) = omega arith in
      ap (λ (k : ℕ). take k bs) a ∙ take-suc bs (length bs - 5) 0 (omega arith) ∙ rw (b, front bs (length bs - 6) (omega arith))

pub record Accepted (limit : ℕ) (bs : List ℕ) (n : ℕ) (end : End) (k : ℕ) : Type 0 where
  pub same : bs ≡ collected_of n end (text_in bs)
  pub number : n ≤ most_number
  pub clean : all allowed (text_in bs) ≡ true
  pub size : k ≡ length (text_in bs)
  pub within : length bs < limit

-- the bytes of a frame that passed each test
module _ (bs : List ℕ) (built : is_built bs ≡ true) (checked : is_checked bs ≡ true) (numbered : is_number (digit_in bs) ≡ true) where
  body : counted_in bs ≡ body_of (number_from (digit_in bs)) (end_from (from_end bs 5)) (text_in bs)
  unfolding body_of
  body =
      let (six, _, end) = built_told bs built in
      counted bs six
      ∙ ap (λ (d : ℕ). d ∷ (text_in bs ++ (from_end bs 5 ∷ []))) (number_told (digit_in bs) numbered).1
      ∙ ap (λ (e : ℕ). digit_for (number_from (digit_in bs)) ∷ (text_in bs ++ (e ∷ []))) (end_byte_law (from_end bs 5) end)

  tail : from_end bs 1 ≡ lf → drop (length bs - 4) bs ≡ tail_of (counted_in bs)
  unfolding tail_of
  tail l =
      let (six, c, _) = built_told bs built in
      let (high, low) = checked_told bs checked in
      last_four bs six ∙ rw (high, low, c, l)

  pub spelt : from_end bs 1 ≡ lf → bs ≡ collected_of (number_from (digit_in bs)) (end_from (from_end bs 5)) (text_in bs)
  unfolding collected_of
  spelt l = sym (take-append-drop (length bs - 4) bs) ∙ rw (tail l, body)

-- the theorem
pub accepted : (limit : ℕ) (bs : List ℕ) (n : ℕ) (end : End) (k : ℕ) → shape_of limit bs ≡ Ok (n, end, k) → Accepted limit bs n end k
unfolding shape_of inner_of
accepted limit bs n end k h =
    let (ended, built, checked, clean, numbered, whole) =
    passed (is_ended limit bs) (is_built bs) (is_checked bs) (all allowed (text_in bs)) (is_number (digit_in bs))
    (Ok (number_from (digit_in bs), end_from (from_end bs 5), length (text_in bs))) n k end h in
    let (within, l) = ended_told bs limit ended in
    let (number, which, size) = same_whole _ _ _ _ _ _ whole in
    record {
      same = spelt bs built checked numbered l ∙ rw (number, which);
      number = rw number at (number_told (digit_in bs) numbered).0;
      clean = clean;
      size = sym size;
      within = within;
    }

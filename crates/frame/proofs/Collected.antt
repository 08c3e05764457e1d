-- The pieces of a frame, read off the bytes that were collected before the last one came.
-- Assumes nothing.
use Rattle.std.specs.Prelude.{Err, Ok}
use Rattle.frame.specs.declared.Flaw.TheVariants.{BadNumber, BadText, Torn, Unended, WrongCheck}
use mathlib.Core.Path.{◌≡◌, refl}
use mathlib.Core.Bool.{true, false, ◌&&◌}
use mathlib.Core.List.{List, [], ◌∷◌, ◌++◌}
use Prim.Native.Nat.{ℕ, ◌+◌, ◌-◌, ◌≤◌, ◌<◌}
use native.Mathlib.Decide.{dec_le}
use native.Mathlib.Omega.{arith}
use lib.ListN.{length, get_or, take, drop, length-append, get_or-append}
use lib.Seq.{get_or_at, take-append-le}
use lib.Dec.{ltb}
use borrow.Author.Tests.{le-leb, lt-leb, lt-ltb, le-ltb, ne_eqb}
use Rattle.memory.specs.Parts.{part}
use Rattle.memory.specs.Tests.{is, all, unless}
use Rattle.memory.proofs.Parts.{part_append_left, length_part}
use Rattle.memory.proofs.Tests.{never_both, and_not_right}
use Rattle.characters.specs.Control.{cr, lf}
use Rattle.digits.specs.Check.{check_of, digits_of}
use Rattle.characters.specs.Allowed.{allowed}
use Rattle.digits.specs.Number.{is_number, number_from}
use Rattle.frame.specs.Shape.{from_end, digit_in, text_in, counted_in, is_end, end_from, is_ended, is_built, is_checked, inner_of, shape_of}

module _ (cs : List ℕ) (last : ℕ) where
  pub long : length (cs ++ (last ∷ [])) ≡ length cs + 1
  long = length-append cs (last ∷ [])

  -- the last byte, and the k-th before it
  pub the_last : from_end (cs ++ (last ∷ [])) 1 ≡ last
  the_last = rw long (get_or_at cs last [] 0 (length cs + 1 - 1) (omega arith))

  pub before_last : (k : ℕ) → 0 < k → k ≤ length cs → from_end (cs ++ (last ∷ [])) (k + 1) ≡ get_or cs (length cs - k) 0
  before_last k p h =
      let e : length cs + 1 - (k + 1) ≡ length cs - k = omega arith in
      rw (long, e) (get_or-append cs (last ∷ []) 0 (length cs - k) (omega arith))

  pub digit_in_law : 0 < length cs → digit_in (cs ++ (last ∷ [])) ≡ get_or cs 0 0
  digit_in_law h = get_or-append cs (last ∷ []) 0 0 h

  pub text_in_law : 5 ≤ length cs → text_in (cs ++ (last ∷ [])) ≡ part cs 1 (length cs - 5)
  text_in_law h =
      let e : length cs + 1 - 6 ≡ length cs - 5 = omega arith in
      rw (long, e) (part_append_left cs (last ∷ []) 1 (length cs - 5) (omega arith))

  pub counted_in_law : 3 ≤ length cs → counted_in (cs ++ (last ∷ [])) ≡ take (length cs - 3) cs
  counted_in_law h =
      let e : length cs + 1 - 4 ≡ length cs - 3 = omega arith in
      rw (long, e) (take-append-le (length cs - 3) cs (last ∷ []) (omega arith))

  -- 22 and 23, in these terms
  pub built_short : length cs < 5 → is_built (cs ++ (last ∷ [])) ≡ false
  unfolding is_built
  built_short h = rw (long, lt-leb 6 (length cs + 1) (omega arith))

  pub built_long : 5 ≤ length cs → is_built (cs ++ (last ∷ [])) ≡ is cr (get_or cs (length cs - 1) 0) && is_end (get_or cs (length cs - 4) 0)
  unfolding is_built
  built_long h = rw (before_last 1 (omega arith) (omega arith), before_last 4 (omega arith) (omega arith), long, le-leb 6 (length cs + 1) (omega arith))

  pub checked_long : 5 ≤ length cs
      → is_checked (cs ++ (last ∷ []))
      ≡ is (digits_of (check_of (take (length cs - 3) cs))).high (get_or cs (length cs - 3) 0) && is (digits_of (check_of (take (length cs - 3) cs))).low (get_or cs (length cs - 2) 0)
  unfolding is_checked
  checked_long h = rw (counted_in_law (omega arith), before_last 3 (omega arith) (omega arith), before_last 2 (omega arith) (omega arith))

  -- 24, 25 and the frame, in these terms
  pub inner_long : 5 ≤ length cs
      → inner_of (cs ++ (last ∷ []))
      ≡ unless (all allowed (part cs 1 (length cs - 5))) (Err BadText)
      (unless (is_number (get_or cs 0 0)) (Err BadNumber) (Ok (number_from (get_or cs 0 0), end_from (get_or cs (length cs - 4) 0), length cs - 5)))
  unfolding inner_of
  inner_long h =
      let n : length (part cs 1 (length cs - 5)) ≡ length cs - 5 = length_part cs 1 (length cs - 5) (omega arith) in
      rw (text_in_law h, n, digit_in_law (omega arith), before_last 4 (omega arith) (omega arith))

  -- the same with the text as a slice is lent
  pub inner_lent : 5 ≤ length cs
      → inner_of (cs ++ (last ∷ []))
      ≡ unless (all allowed (take (length cs - 4 - 1) (drop 1 cs))) (Err BadText)
      (unless (is_number (get_or cs 0 0)) (Err BadNumber) (Ok (number_from (get_or cs 0 0), end_from (get_or cs (length cs - 4) 0), length cs - 5)))
  unfolding part
  inner_lent h =
      let e : length cs - 4 - 1 ≡ length cs - 5 = omega arith in
      rw e (inner_long h)

  -- what is built has at least 5 bytes before its last
  pub built_five : is_built (cs ++ (last ∷ [])) ≡ true → 5 ≤ length cs
  built_five e = elim (dec_le 5 (length cs)) [ yes h ↦ h | no h ↦ never_both (is_built (cs ++ (last ∷ []))) e (built_short (omega arith)) ]

  -- 21, and what comes after it
  pub shape_long : (limit : ℕ) → limit ≤ length cs + 1 → shape_of limit (cs ++ (last ∷ [])) ≡ Err Unended
  unfolding shape_of is_ended
  shape_long limit h = rw (long, le-ltb (length cs + 1) limit h)

  pub shape_open : (limit : ℕ) → (last ≡ lf → ⊥) → shape_of limit (cs ++ (last ∷ [])) ≡ Err Unended
  unfolding shape_of is_ended
  shape_open limit n = rw (the_last, ne_eqb last lf n, and_not_right (ltb (length (cs ++ (last ∷ []))) limit) false refl)

pub shape_ended : (cs : List ℕ) (limit : ℕ) → length cs + 1 < limit
    → shape_of limit (cs ++ (lf ∷ []))
    ≡ unless (is_built (cs ++ (lf ∷ []))) (Err Torn) (unless (is_checked (cs ++ (lf ∷ []))) (Err WrongCheck) (inner_of (cs ++ (lf ∷ []))))
unfolding shape_of is_ended
shape_ended cs limit h = rw (the_last cs lf, long cs lf, lt-ltb (length cs + 1) limit h)

-- What each test of the shape told of a frame that it takes for whole.
-- Assumes nothing.
use Rattle.std.specs.Prelude.{Err, Ok, Result}
use Rattle.std.specs.Result.{result_unwrap_or}
use Rattle.frame.specs.declared.Flaw.TheVariants.{BadNumber, BadText, Torn, Unended, WrongCheck}
use Rattle.frame.specs.declared.Flaw.{Flaw}
use mathlib.Core.Path.{◌≡◌, refl, ap}
use mathlib.Core.Bool.{Bool, true, false, ◌&&◌}
use mathlib.Core.List.{List}
use Prim.Native.Nat.{ℕ, ◌+◌, ◌-◌, ◌≤◌, ◌<◌}
use native.Mathlib.Omega.{arith}
use borrow.Author.Tests.{leb-true, ltb-true, eqb-true}
use lib.Dec.{leb, ltb}
use lib.ListN.{length}
use Rattle.memory.specs.Tests.{all, unless, is}
use Rattle.memory.proofs.Parts.{length_part}
use Rattle.memory.proofs.Tests.{and_left, and_right}
use Rattle.characters.specs.Control.{cr, lf}
use Rattle.characters.specs.Allowed.{allowed}
use Rattle.digits.specs.Check.{digits_of, check_of}
use Rattle.digits.specs.Number.{most_number, digit_for, is_number, number_from}
use Rattle.frame.specs.Shape.{from_end, digit_in, text_in, counted_in, is_end, end_from, is_ended, is_built, is_checked, inner_of, shape_of}
use Rattle.frame.specs.declared.End.{End}

-- what is whole has passed each test
pub passed : (a b c d e : Bool) (w : Result (ℕ × End × ℕ) Flaw) (n k : ℕ) (end : End)
    → unless a (Err Unended) (unless b (Err Torn) (unless c (Err WrongCheck) (unless d (Err BadText) (unless e (Err BadNumber) w)))) ≡ Ok (n, end, k)
    → (a ≡ true) × (b ≡ true) × (c ≡ true) × (d ≡ true) × (e ≡ true) × (w ≡ Ok (n, end, k))
passed true true true true true w n k end h = (refl, refl, refl, refl, refl, h)
passed true true true true false w n k end h = let z : ◌≡◌ {A = ℕ} 0 1 = cc in absurd (omega arith)
passed true true true false e w n k end h = let z : ◌≡◌ {A = ℕ} 0 1 = cc in absurd (omega arith)
passed true true false d e w n k end h = let z : ◌≡◌ {A = ℕ} 0 1 = cc in absurd (omega arith)
passed true false c d e w n k end h = let z : ◌≡◌ {A = ℕ} 0 1 = cc in absurd (omega arith)
passed false b c d e w n k end h = let z : ◌≡◌ {A = ℕ} 0 1 = cc in absurd (omega arith)

-- what each test told
module _ (bs : List ℕ) where
  pub ended_told : (limit : ℕ) → is_ended limit bs ≡ true → (length bs < limit) × (from_end bs 1 ≡ lf)
  unfolding is_ended
  ended_told limit h =
      (ltb-true (length bs) limit (and_left (ltb (length bs) limit) (is lf (from_end bs 1)) h), eqb-true (from_end bs 1) lf (and_right (ltb (length bs) limit) (is lf (from_end bs 1)) h))

  pub built_told : is_built bs ≡ true → (6 ≤ length bs) × (from_end bs 2 ≡ cr) × (is_end (from_end bs 5) ≡ true)
  unfolding is_built
  built_told h =
      let first = and_left (leb 6 (length bs) && is cr (from_end bs 2)) (is_end (from_end bs 5)) h in (
        leb-true 6 (length bs) (and_left (leb 6 (length bs)) (is cr (from_end bs 2)) first),
        eqb-true (from_end bs 2) cr (and_right (leb 6 (length bs)) (is cr (from_end bs 2)) first),
        and_right (leb 6 (length bs) && is cr (from_end bs 2)) (is_end (from_end bs 5)) h,
      )

  pub checked_told : is_checked bs ≡ true
      → (from_end bs 4 ≡ (digits_of (check_of (counted_in bs))).high) × (from_end bs 3 ≡ (digits_of (check_of (counted_in bs))).low)
  unfolding is_checked
  checked_told h =
      let d = digits_of (check_of (counted_in bs)) in (
        eqb-true (from_end bs 4) d.high (and_left (is d.high (from_end bs 4)) (is d.low (from_end bs 3)) h),
        eqb-true (from_end bs 3) d.low (and_right (is d.high (from_end bs 4)) (is d.low (from_end bs 3)) h),
      )

pub number_told : (b : ℕ) → is_number b ≡ true → (number_from b ≤ most_number) × (b ≡ digit_for (number_from b))
number_told b h =
    let low : 0x30 ≤ b = leb-true 0x30 b (and_left (leb 0x30 b) (leb b 0x37) h) in
    let high : b ≤ 0x37 = leb-true b 0x37 (and_right (leb 0x30 b) (leb b 0x37) h) in
    (omega arith, omega arith)

-- what a whole frame holds
pub same_whole : (n m : ℕ) (end other : End) (k l : ℕ) → ◌≡◌ {A = Result (ℕ × End × ℕ) Flaw} (Ok (n, end, k)) (Ok (m, other, l)) → (n ≡ m) × (end ≡ other) × (k ≡ l)
same_whole n m end other k l e =
    let held : ◌≡◌ {A = ℕ × End × ℕ} (n, end, k) (m, other, l) = ap (λ (r : Result (ℕ × End × ℕ) Flaw). result_unwrap_or r (n, end, k)) e in
    (ap (λ (w : ℕ × End × ℕ). w.0) held, ap (λ (w : ℕ × End × ℕ). w.1) held, ap (λ (w : ℕ × End × ℕ). w.2) held)

-- the bytes collected are its text and six more, by what is built alone
pub accepted_size : (limit : ℕ) (bs : List ℕ) (n : ℕ) (end : End) (k : ℕ) → shape_of limit bs ≡ Ok (n, end, k) → length bs ≡ k + 6
unfolding shape_of inner_of
accepted_size limit bs n end k h =
    let (_, built, _, _, _, whole) =
    passed (is_ended limit bs) (is_built bs) (is_checked bs) (all allowed (text_in bs)) (is_number (digit_in bs))
    (Ok (number_from (digit_in bs), end_from (from_end bs 5), length (text_in bs))) n k end h in
    let (six, _, _) = built_told bs built in
    let (_, _, size) = same_whole _ _ _ _ _ _ whole in
    let text : length (text_in bs) ≡ length bs - 6 = length_part bs 1 (length bs - 6) (omega arith) in
    omega arith

-- and its text is of allowed bytes (24)
pub accepted_clean : (limit : ℕ) (bs : List ℕ) (n : ℕ) (end : End) (k : ℕ) → shape_of limit bs ≡ Ok (n, end, k) → all allowed (text_in bs) ≡ true
unfolding shape_of inner_of
accepted_clean limit bs n end k h =
    let (_, _, _, clean, _, _) =
    passed (is_ended limit bs) (is_built bs) (is_checked bs) (all allowed (text_in bs)) (is_number (digit_in bs))
    (Ok (number_from (digit_in bs), end_from (from_end bs 5), length (text_in bs))) n k end h in
    clean

-- What the tests on a number's text tell, and how its value grows digit by digit.
-- Assumes nothing.
use mathlib.Core.Path.{◌≡◌, refl, sym, ◌∙◌}
use mathlib.Core.Bool.{Bool, true, false, not, cond, ◌&&◌}
use mathlib.Core.List.{List}
use Prim.Native.Nat.{ℕ, ◌+◌, ◌-◌, ◌*◌, ◌^◌, ◌<◌, ◌≤◌}
use native.Mathlib.Nat.{pow-suc, pow-le-pow_right}
use native.Mathlib.Numerals.{add-one}
use native.Mathlib.Omega.{arith}
use native.Mathlib.Decide.{dec_lt}
use lib.Dec.{eqb}
use lib.ListN.{length, get_or, drop, drop_of_length-le}
use lib.Seq.{drop-cons}
use borrow.Author.Tests.{ne_eqb}
use Rattle.memory.specs.Tests.{between, all}
use Rattle.memory.proofs.Tests.{between_yes, between_low, between_high, all_stop, all_next, all_done}
use Rattle.sequence.specs.Numbers.{is_digit, decimal, number_of}

pub not_digit : (b : ℕ) → ((0x30 ≤ b) × (b ≤ 0x39) → ⊥) → is_digit b ≡ false
not_digit b h =
    elim (dec_lt b 0x30) [
      | yes lt ↦ between_low 0x30 0x39 b lt
      | no ge ↦ between_high 0x30 0x39 b (lt_of_not (λ k. h (omega arith, k)))
    ]
  where
    lt_of_not : (b ≤ 0x39 → ⊥) → 0x39 < b
    lt_of_not n = omega arith

-- a field that fails one of the three tests is no number
no_second : (a c : Bool) (v : ℕ) → 0 ≡ cond (a && false && c) v 0
no_second true c v = refl
no_second false c v = refl

no_third : (a : Bool) (v : ℕ) → 0 ≡ cond (a && false) v 0
no_third true v = refl
no_third false v = refl

pub number_none : (f : List ℕ) → length f ≡ 0 → 0 ≡ number_of f
unfolding number_of
number_none f e = rw (between_low 1 6 (length f) (omega arith))

pub number_long : (f : List ℕ) → 6 < length f → 0 ≡ number_of f
unfolding number_of
number_long f h = rw (between_high 1 6 (length f) h)

pub number_zero : (f : List ℕ) → get_or f 0 0 ≡ 0x30 → 0 ≡ number_of f
unfolding number_of
number_zero f e = rw e (no_second (between 1 6 (length f)) (all is_digit f) (decimal 0 f))

pub number_bad : (f : List ℕ) → false ≡ all is_digit f → 0 ≡ number_of f
unfolding number_of
number_bad f e = rw (← e) (no_third (between 1 6 (length f) && not (eqb (get_or f 0 0) 0x30)) (decimal 0 f))

pub number_is : (f : List ℕ) → 1 ≤ length f → length f ≤ 6 → (get_or f 0 0 ≡ 0x30 → ⊥) → true ≡ all is_digit f → decimal 0 f ≡ number_of f
unfolding number_of
number_is f h k n e = rw (between_yes 1 6 (length f) h k, ne_eqb (get_or f 0 0) 0x30 n, ← e)

pub decimal_more : (n : ℕ) (s : List ℕ) (i : ℕ) → i < length s → decimal n (drop i s) ≡ decimal (n * 10 + (get_or s i 0 - 0x30)) (drop (i + 1) s)
decimal_more n s i h = rw (add-one, drop-cons s i 0)

-- a number below 10 ^ i with one digit more, and one of up to six digits
pub tenfold : (n d i : ℕ) → n < 10 ^ i → d < 10 → n * 10 + d < 10 ^ (i + 1)
tenfold n d i h k = rw (add-one, pow-suc) (omega arith)

pub six_digits : (n i : ℕ) → n < 10 ^ i → i ≤ 6 → n < 1000000
six_digits n i h k = let p : 10 ^ i ≤ 10 ^ 6 = pow-le-pow_right (omega arith) k in omega arith

-- a reader that stands at i of a field: what it has passed are digits, six at most and no zero first, and n is their decimal
pub record Read (f : List ℕ) (n i : ℕ) : Type 0 where
  pub within : i ≤ length f
  pub few : i ≤ 6
  pub small : n < 10 ^ i
  pub value : decimal n (drop i f) ≡ decimal 0 f
  pub digits : all is_digit (drop i f) ≡ all is_digit f
  pub first : 0 < i → (0 < n) × (get_or f 0 0 ≡ 0x30 → ⊥)

pub read_none : (f : List ℕ) → Read f 0 0
read_none f = record { within = omega arith; few = omega arith; small = omega arith; value = refl; digits = refl; first = λ h. absurd (omega arith) }

module _ (f : List ℕ) (n i : ℕ) (r : Read f n i) where
  -- it has come to the field's end
  pub read_all : i ≡ length f → n ≡ number_of f
  read_all e =
      elim (dec_lt 0 i) [
        | yes some ↦
            let le : length f ≤ i = omega arith in
            let v : n ≡ decimal 0 f = rw (drop_of_length-le f) at r.value in
            v ∙ number_is f (omega arith) (omega arith) (r.first some).1 (all_done is_digit f i le r.digits)
        | no none ↦
            let z : i ≡ 0 = omega arith in
            let small : n < 10 ^ 0 = rw z at r.small in
            let zero : n ≡ 0 = omega arith in
            rw zero (number_none f (omega arith))
      ]

  -- it meets a byte that is no digit, a digit too many, a zero first, or one digit more
  module _ (lt : i < length f) where
    pub read_bad : is_digit (get_or f i 0) ≡ false → 0 ≡ number_of f
    read_bad h = number_bad f (all_stop is_digit f i lt h r.digits)

    pub read_long : i ≡ 6 → 0 ≡ number_of f
    read_long e = number_long f (omega arith)

    module _ (v : ℕ) (is_digit_law : v + 0x30 ≡ get_or f i 0) (below : v < 10) where
      pub read_zero : n * 10 + v ≡ 0 → 0 ≡ number_of f
      read_zero e =
          elim (dec_lt 0 i) [
            | yes some ↦ let p : 0 < n = (r.first some).0 in absurd (omega arith)
            | no none ↦
                let z : i ≡ 0 = omega arith in
                let d : get_or f i 0 ≡ 0x30 = omega arith in
                number_zero f (rw z at d)
          ]

      pub read_more : (i ≡ 6 → ⊥) → (n * 10 + v ≡ 0 → ⊥) → Read f (n * 10 + v) (i + 1)
      read_more short some = record {
        within = omega arith;
        few = omega (arith, r.few);
        small = tenfold n v i r.small below;
        value =
            let d : get_or f i 0 - 0x30 ≡ v = omega arith in
            rw d at (sym (decimal_more n f i lt)) ∙ r.value;
        digits = all_next is_digit f i lt (between_yes 0x30 0x39 (get_or f i 0) (omega arith) (omega arith)) r.digits;
        first = λ h. (omega arith, by_place (dec_lt 0 i));
      }
        where
          by_place : Dec (0 < i) → get_or f 0 0 ≡ 0x30 → ⊥
          by_place (yes p) e = (r.first p).1 e
          by_place (no p) e = some (let z : i ≡ 0 = omega arith in let d : get_or f 0 0 ≡ v + 0x30 = rw z at (sym is_digit_law) in let few : n < 10 ^ 0 = rw z at r.small in omega arith)

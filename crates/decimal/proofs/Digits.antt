-- Laws of a number's decimal digits: the last one at a time, how many there are, and that the first is no zero.
-- Assumes nothing.
use mathlib.Core.Path.{◌≡◌, refl, sym, ap, ◌∙◌}
use mathlib.Core.List.{[], ◌∷◌, ◌++◌, append_assoc}
use Prim.Native.Nat.{ℕ, zero, suc, ◌+◌, ◌-◌, ◌*◌, ◌/◌, ◌%◌, ◌^◌, ◌≤◌, ◌<◌}
use native.Mathlib.Nat.{pow-suc, add-zero, add-suc}
use native.Mathlib.Decide.{dec_le}
use native.Mathlib.Omega.{arith}
use lib.ListN.{length, get_or, length-append, get_or-append}
use borrow.Author.Tests.{lt-ltb, le-ltb}
use Rattle.decimal.specs.Decimal.{digit_for, digits_in, decimal_of}
use Rattle.decimal.specs.Inner.Groups.{two_digits, four_digits}

-- one turn: a number of one digit, and one of more
in_one : (turns n : ℕ) → n < 10 → digits_in turns n ≡ digit_for n ∷ []
unfolding digits_in
in_one zero n h = refl
in_one (suc turns) n h = rw (lt-ltb n 10 h)

in_more : (turns n : ℕ) → 10 ≤ n → digits_in (suc turns) n ≡ digits_in turns (n / 10) ++ (digit_for (n % 10) ∷ [])
unfolding digits_in
in_more turns n h = rw (le-ltb n 10 h)

-- turns that are not needed
one_more : (turns n : ℕ) → n ≤ turns → digits_in (suc turns) n ≡ digits_in turns n
one_more zero n h = in_one 1 n (omega arith) ∙ sym (in_one 0 n (omega arith))
one_more (suc turns) n h = elim (dec_le 10 n) [
  | yes g ↦ in_more (suc turns) n g ∙ rw (one_more turns (n / 10) (omega arith)) (sym (in_more turns n g))
  | no g ↦ in_one (suc (suc turns)) n (omega arith) ∙ sym (in_one (suc turns) n (omega arith))
]

more_turns : (k n : ℕ) → digits_in (n + k) n ≡ digits_in n n
more_turns zero n = rw (add-zero n)
more_turns (suc k) n = rw (add-suc n k) (one_more (n + k) n (omega arith) ∙ more_turns k n)

enough : (turns n : ℕ) → n ≤ turns → digits_in turns n ≡ decimal_of n
unfolding decimal_of
enough turns n h =
    let e : n + (turns - n) ≡ turns = omega arith in
    ap (λ (t : ℕ). digits_in t n) (sym e) ∙ more_turns (turns - n) n

-- the digits of a number below 10, and the last digit of a larger one
pub one_digit : (n : ℕ) → n < 10 → decimal_of n ≡ digit_for n ∷ []
one_digit n h = sym (enough n n (omega arith)) ∙ in_one n n h

pub last_digit : (n : ℕ) → 10 ≤ n → decimal_of n ≡ decimal_of (n / 10) ++ (digit_for (n % 10) ∷ [])
last_digit n h =
    let e : suc (n - 1) ≡ n = omega arith in
    sym (enough (suc (n - 1)) n (omega arith)) ∙ in_more (n - 1) n h ∙ rw (enough (n - 1) (n / 10) (omega arith))

pub two_digits_law : (n : ℕ) → 10 ≤ n → n < 100 → decimal_of n ≡ two_digits n
two_digits_law n h k = last_digit n h ∙ rw (one_digit (n / 10) (omega arith))

-- the last two digits, as one division by 100 gives them
pub last_two : (n : ℕ) → 100 ≤ n → decimal_of n ≡ decimal_of (n / 100) ++ two_digits (n % 100)
last_two n h =
    let rest : n / 10 / 10 ≡ n / 100 = omega arith in
    let tens : n / 10 % 10 ≡ n % 100 / 10 = omega arith in
    let ones : n % 10 ≡ n % 100 % 10 = omega arith in
    last_digit n (omega arith)
    ∙ rw (last_digit (n / 10) (omega arith), rest, tens, ones) (append_assoc (decimal_of (n / 100)) (digit_for (n % 100 / 10) ∷ []) (digit_for (n % 100 % 10) ∷ []))

pub three_digits : (n : ℕ) → 100 ≤ n → n < 1000 → decimal_of n ≡ digit_for (n / 100) ∷ two_digits (n % 100)
three_digits n h k = last_two n h ∙ rw (one_digit (n / 100) (omega arith))

pub four_digits_law : (n : ℕ) → 1000 ≤ n → n < 10000 → decimal_of n ≡ four_digits n
four_digits_law n h k = last_two n (omega arith) ∙ rw (two_digits_law (n / 100) (omega arith) (omega arith))

pub last_four : (n : ℕ) → 10000 ≤ n → decimal_of n ≡ decimal_of (n / 10000) ++ four_digits (n % 10000)
last_four n h =
    let rest : n / 100 / 100 ≡ n / 10000 = omega arith in
    let high : n / 100 % 100 ≡ n % 10000 / 100 = omega arith in
    let low : n % 100 ≡ n % 10000 % 100 = omega arith in
    last_two n (omega arith)
    ∙ rw (last_two (n / 100) (omega arith), rest, high, low) (append_assoc (decimal_of (n / 10000)) (two_digits (n % 10000 / 100)) (two_digits (n % 10000 % 100)))

-- how many there are
pub one_long : (n : ℕ) → n < 10 → length (decimal_of n) ≡ 1
one_long n h = ap length (one_digit n h)

pub one_longer : (n : ℕ) → 10 ≤ n → length (decimal_of n) ≡ length (decimal_of (n / 10)) + 1
one_longer n h = rw (last_digit n h) (length-append (decimal_of (n / 10)) (digit_for (n % 10) ∷ []))

pub two_longer : (n : ℕ) → 100 ≤ n → length (decimal_of n) ≡ length (decimal_of (n / 100)) + 2
two_longer n h =
    let rest : n / 10 / 10 ≡ n / 100 = omega arith in
    rw (one_longer n (omega arith), one_longer (n / 10) (omega arith), rest) (omega arith)

pub four_longer : (n : ℕ) → 10000 ≤ n → length (decimal_of n) ≡ length (decimal_of (n / 10000)) + 4
four_longer n h =
    let rest : n / 100 / 100 ≡ n / 10000 = omega arith in
    rw (two_longer n (omega arith), two_longer (n / 100) (omega arith), rest) (omega arith)

pub two_long : (n : ℕ) → 10 ≤ n → n < 100 → length (decimal_of n) ≡ 2
two_long n h k = one_longer n h ∙ rw (one_long (n / 10) (omega arith))

pub three_long : (n : ℕ) → 100 ≤ n → n < 1000 → length (decimal_of n) ≡ 3
three_long n h k = one_longer n (omega arith) ∙ rw (two_long (n / 10) (omega arith) (omega arith))

pub four_long : (n : ℕ) → 1000 ≤ n → n < 10000 → length (decimal_of n) ≡ 4
four_long n h k = one_longer n (omega arith) ∙ rw (three_long (n / 10) (omega arith) (omega arith))

-- by the last digit: what holds of one digit, and of n where it holds of n / 10, holds of every number
module _ (P : ℕ → Type 0) (one : (n : ℕ) → n < 10 → P n) (more : (n : ℕ) → 10 ≤ n → P (n / 10) → P n) where
  by_turns : (turns n : ℕ) → n ≤ turns → P n
  by_turns zero n h = one n (omega arith)
  by_turns (suc turns) n h = elim (dec_le 10 n) [ yes g ↦ more n g (by_turns turns (n / 10) (omega arith)) | no g ↦ one n (omega arith) ]

  pub by_digits : (n : ℕ) → P n
  by_digits n = by_turns n n (omega arith)

some_digit : (n : ℕ) → 0 < length (decimal_of n)
some_digit =
    by_digits (λ (n : ℕ). 0 < length (decimal_of n))
    (λ n h. rw (one_long n h) (omega arith))
    (λ n h k. rw (one_longer n h) (omega arith))

pub most_digits_law : (k n : ℕ) → n < 10 ^ suc k → length (decimal_of n) ≤ suc k
most_digits_law zero n h = rw (one_long n (omega arith)) (omega arith)
most_digits_law (suc k) n h = elim (dec_le 10 n) [
  | yes g ↦
      let p : n < 10 ^ suc k * 10 = rw (pow-suc 10 (suc k)) at h in
      let q = most_digits_law k (n / 10) (omega arith) in
      rw (one_longer n g) (omega (arith, q))
  | no g ↦ rw (one_long n (omega arith)) (omega arith)
]

some_power : (k : ℕ) → 1 ≤ 10 ^ k
some_power zero = omega arith
some_power (suc k) = rw (pow-suc 10 k) (omega (arith, some_power k))

least_digits_law : (k n : ℕ) → 10 ^ k ≤ n → suc k ≤ length (decimal_of n)
least_digits_law zero n h = some_digit n
least_digits_law (suc k) n h =
    let p : 10 ^ k * 10 ≤ n = rw (pow-suc 10 k) at h in
    let more : 10 ^ k ≤ n / 10 = omega arith in
    let some : 1 ≤ 10 ^ k = some_power k in
    rw (one_longer n (omega arith)) (omega (arith, least_digits_law k (n / 10) more))

-- by the greatest power of ten that is no larger
pub digits_by_power : (k n : ℕ) → 10 ^ k ≤ n → n < 10 * 10 ^ k → length (decimal_of n) ≡ k + 1
digits_by_power k n h g =
    let less : n < 10 ^ suc k = rw (pow-suc 10 k) (omega arith) in
    omega (arith, least_digits_law k n h, most_digits_law k n less)

-- a 64-bit number has at most 20
pub twenty : (n : ℕ) → n < 18446744073709551616 → length (decimal_of n) ≤ 20
twenty n h = most_digits_law 19 n (omega arith)

-- no leading zero, but in 0 itself
pub no_leading_zero : (n : ℕ) → 1 ≤ n → get_or (decimal_of n) 0 0 ≡ 0x30 → ⊥
no_leading_zero =
    by_digits (λ (n : ℕ). 1 ≤ n → get_or (decimal_of n) 0 0 ≡ 0x30 → ⊥)
    (λ n h k e. let z = rw (one_digit n h) at e in omega arith)
    (λ n h f k e.
    let some : 0 < length (decimal_of (n / 10)) = some_digit (n / 10) in
    f (omega arith) (sym (get_or-append (decimal_of (n / 10)) (digit_for (n % 10) ∷ []) 0 0 some) ∙ rw (← last_digit n h) e))

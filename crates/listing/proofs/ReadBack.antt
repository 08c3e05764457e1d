-- A number's decimal digits read back as the number.
-- Assumes nothing.
use Rattle.std.proofs.Common.{◌≡◌, ℕ, ◌+◌, ◌-◌, ◌*◌, ◌/◌, ◌%◌, true, List, [], ◌∷◌, ◌++◌, sym, refl, ap, ◌∙◌, arith, le-leb}
use Rattle.memory.specs.Tests.{all}
use Rattle.memory.proofs.Tests.{all_append}
use Rattle.sequence.specs.Numbers.{is_digit, decimal}
use Rattle.decimal.specs.Decimal.{digit_for, decimal_of}
use Rattle.decimal.proofs.Digits.{one_digit, last_digit, by_digits}

decimal_append : (n : ℕ) (xs ys : List ℕ) → decimal n (xs ++ ys) ≡ decimal (decimal n xs) ys
decimal_append n [] ys = refl
decimal_append n (x ∷ xs) ys = decimal_append (n * 10 + (x - 0x30)) xs ys

pub read_back : (n : ℕ) → decimal 0 (decimal_of n) ≡ n
read_back =
    by_digits (λ (n : ℕ). decimal 0 (decimal_of n) ≡ n)
    (λ n h. rw (one_digit n h) (omega arith))
    (λ n h e. rw (last_digit n h, decimal_append 0 (decimal_of (n / 10)) (digit_for (n % 10) ∷ []), e) (omega arith))

-- so two numbers have two texts
pub one_number : (n m : ℕ) → decimal_of n ≡ decimal_of m → n ≡ m
one_number n m e = sym (read_back n) ∙ ap (decimal 0) e ∙ read_back m

pub all_digits : (n : ℕ) → all is_digit (decimal_of n) ≡ true
all_digits =
    by_digits (λ (n : ℕ). all is_digit (decimal_of n) ≡ true)
    (λ n h. rw (one_digit n h, le-leb 0x30 (digit_for n) (omega arith), le-leb (digit_for n) 0x39 (omega arith)))
    (λ n h e. rw (last_digit n h, all_append is_digit (decimal_of (n / 10)) (digit_for (n % 10) ∷ []), e, le-leb 0x30 (digit_for (n % 10)) (omega arith), le-leb (digit_for (n % 10)) 0x39 (omega arith)))

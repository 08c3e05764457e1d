-- A number in decimal.
-- Assumes nothing.
use Rattle.std.specs.Prelude.{ℕ, zero, suc, ◌+◌, ◌/◌, ◌%◌, cond, List, [], ◌∷◌, ◌++◌, ltb}

-- the digit of a number below 10
abbrev pub digit_for : ℕ → ℕ
digit_for n = 0x30 + n

-- the digits of n, in at most `turns` + 1 digits: those of n / 10, then the last one
unfoldable pub digits_in : ℕ → ℕ → List ℕ
digits_in zero n = digit_for n ∷ []
digits_in (suc turns) n = cond (ltb n 10) (digit_for n ∷ []) (digits_in turns (n / 10) ++ (digit_for (n % 10) ∷ []))

-- the digits of n, with no leading zero; n turns are enough for any n
unfoldable pub decimal_of : ℕ → List ℕ
decimal_of n = digits_in n n

-- the most digits of a 64-bit number
abbrev pub most_digits : ℕ
most_digits = 20

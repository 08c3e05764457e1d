-- The check of a frame: a sum of bytes modulo 256, written as two digits.
-- Assumes nothing.
use Rattle.std.specs.Prelude.{ℕ, ◌+◌, ◌/◌, ◌%◌, cond, List, [], ◌∷◌, nat_lt}
use Rattle.digits.specs.declared.Digits.{Digits}

-- the sum of the bytes
unfoldable pub total : List ℕ → ℕ
total [] = 0
total (b ∷ bs) = b + total bs

-- the check of the bytes that it counts [F2]
unfoldable pub check_of : List ℕ → ℕ
check_of bs = total bs % 256

-- the digit of a number below 16: 0 to 9, then A to F [F3]
unfoldable pub hex_digit : ℕ → ℕ
hex_digit n = cond (nat_lt n 10) (0x30 + n) (0x37 + n)

-- the two digits of a check [F3]
unfoldable pub digits_of : ℕ → Digits
digits_of check = record { high = hex_digit (check / 16); low = hex_digit (check % 16) }

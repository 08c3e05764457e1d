-- The numbers of frames: 1, 2, .. 7, 0, 1.
-- Assumes nothing.
use Rattle.std.specs.Prelude.{ℕ, ◌+◌, ◌-◌, ◌%◌, Bool}
use Rattle.memory.specs.Tests.{between}

-- the number of the first frame [C3]
abbrev pub first_number : ℕ
first_number = 1

-- the largest number of a frame [F4]
abbrev pub most_number : ℕ
most_number = 7

-- the number after n [F4]
unfoldable pub next_number : ℕ → ℕ
next_number n = (n + 1) % (most_number + 1)

-- a number as the digit that stands in a frame, whether a byte is such a digit, and the number that it stands for [A25]
abbrev pub digit_for : ℕ → ℕ
digit_for n = 0x30 + n

abbrev pub is_number : ℕ → Bool
is_number b = between (digit_for 0) (digit_for most_number) b

abbrev pub number_from : ℕ → ℕ
number_from b = b - digit_for 0

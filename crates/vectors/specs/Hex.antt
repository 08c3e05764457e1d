-- Bytes in hex.
-- Assumes nothing.
use Rattle.std.specs.Prelude.{ℕ, ◌+◌, ◌*◌, ◌/◌, ◌%◌, cond, nat_lt, List, length, map, slice_index}
use Rattle.std.specs.Simd.{first_chunks}

-- the value of a hex digit, in either case; every other byte has a value too
abbrev pub digit_of : ℕ → ℕ
digit_of b = cond (nat_lt b 0x40) (b % 16) ((b % 16 + 9) % 16)

-- the byte of two digits, the high one first
abbrev pub byte_of : List ℕ → ℕ
byte_of pair = digit_of (slice_index pair 0) * 16 + digit_of (slice_index pair 1)

-- the bytes of pairs of digits; a last digit that has no other spells none
abbrev pub bytes_of : List ℕ → List ℕ
bytes_of digits = map byte_of (first_chunks 2 (length digits / 2) digits)

-- A line of a trace: line digit, space, letter, space, operand.
-- Assumes nothing.
use Rattle.listing.specs.declared.Item.TheVariants.{Event, Taking}
use Rattle.listing.specs.declared.Item.{Item}
use Rattle.std.specs.Prelude.{ℕ, ◌+◌, ◌-◌, ◌*◌, Bool, cond, ◌&&◌, List, length, drop, ◌==◌, nat_le, slice_index, None, Option, Some}
use Rattle.memory.specs.Sizes.{message_limit}
use Rattle.memory.specs.Tests.{is, between, all, unless}
use Rattle.sequence.specs.Numbers.{is_digit, decimal}
use Rattle.looking.specs.declared.Kind.{Kind}
use Rattle.looking.specs.declared.Kind.TheVariants.{Byte, Seconds}

-- the bytes of a line that is looked at: at least one behind the four in front of the operand
abbrev pub shortest : ℕ
shortest = 5

-- a longer line is not an event [T6]
abbrev pub line_limit : ℕ
line_limit = 4096

-- where the operand starts
abbrev pub operand_at : ℕ
operand_at = 4

-- the value of a hex digit, of either case [T2]
unfoldable pub hex_value : ℕ → Option ℕ
hex_value b =
    cond (is_digit b) (Some (b - 0x30))
    (cond (between 0x41 0x46 b) (Some (b - 0x41 + 10))
    (cond (between 0x61 0x66 b) (Some (b - 0x61 + 10)) None))

-- a number in decimal of any number of digits, leading zeros too, if it is at most `most`; an operand has at least one byte (`shortest`) [T3]
unfoldable pub amount_of : ℕ → List ℕ → Option ℕ
amount_of most text = cond (all is_digit text && nat_le (decimal 0 text) most) (Some (decimal 0 text)) None

-- an event on a line
abbrev pub event_on : ℕ → Kind → Option Item
event_on line kind = Some (Event (record { line = line; kind = kind }))

-- B: exactly two hex digits [T2]
abbrev pub by_digits : ℕ → Option ℕ → Option ℕ → Option Item
by_digits line (Some high) (Some low) = event_on line (Byte (high * 16 + low))
by_digits line (Some high) None = None
by_digits line None low = None

unfoldable pub byte_item : ℕ → List ℕ → Option Item
byte_item line text = unless (length text == 2) None (by_digits line (hex_value (slice_index text 0)) (hex_value (slice_index text 1)))

-- S: 0 to 255 [T3]
abbrev pub by_seconds : ℕ → Option ℕ → Option Item
by_seconds line (Some n) = event_on line (Seconds n)
by_seconds line None = None

unfoldable pub seconds_item : ℕ → List ℕ → Option Item
seconds_item line text = by_seconds line (amount_of 255 text)

-- T: 0 to the length of the longest message [T4]
abbrev pub by_length : ℕ → Option ℕ → Option Item
by_length line (Some n) = Some (Taking line n)
by_length line None = None

unfoldable pub taking_item : ℕ → List ℕ → Option Item
taking_item line text = by_length line (amount_of message_limit text)

-- by the letter: B, S, T [T1]
unfoldable pub operand_of : ℕ → ℕ → List ℕ → Option Item
operand_of line letter text =
    cond (is 0x42 letter) (byte_item line text)
    (cond (is 0x53 letter) (seconds_item line text)
    (cond (is 0x54 letter) (taking_item line text) None))

-- the line is of a length that is looked at, a digit begins it, and spaces stand around the letter [T1, T5]
unfoldable pub is_laid_out : List ℕ → Bool
is_laid_out text =
    nat_le shortest (length text) && nat_le (length text) line_limit
    && is_digit (slice_index text 0) && is 0x20 (slice_index text 1) && is 0x20 (slice_index text 3)

-- what a line of a trace is [T1]
unfoldable pub item_of : List ℕ → Option Item
item_of text = unless (is_laid_out text) None (operand_of (slice_index text 0 - 0x30) (slice_index text 2) (drop operand_at text))

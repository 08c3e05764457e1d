-- What a line that is read cannot hold: a taking's buffer is never longer than the longest message.
-- Assumes nothing.
use Rattle.std.specs.Prelude.{None, Option, Some, ℕ}
use Rattle.listing.specs.declared.Item.TheVariants.{Event, Taking}
use Rattle.listing.specs.declared.Item.{Item}
use Rattle.std.proofs.Common.{◌≡◌, ℕ, ◌-◌, ◌≤◌, Bool, true, false, cond, eqb, List, length, get_or, drop, refl, ap, zero-le, arith}
use Rattle.memory.specs.Sizes.{message_limit}
use Rattle.listing.specs.Items.{operand_at, hex_value, by_digits, by_length, byte_item, seconds_item, taking_item, by_seconds, amount_of, operand_of, is_laid_out, item_of}
use Rattle.listing.proofs.Operands.{value_of, value_of_law}

-- the buffer that an item asks for
abbrev buffer_of : Option Item → ℕ
buffer_of (Some (Event e)) = 0
buffer_of (Some (Taking line n)) = n
buffer_of None = 0

either : (b : Bool) (x y : Option Item) → buffer_of x ≤ message_limit → buffer_of y ≤ message_limit → buffer_of (cond b x y) ≤ message_limit
either true x y p q = p
either false x y p q = q

asked : (line : ℕ) (a : Option ℕ) → buffer_of (by_length line a) ≡ value_of a
asked line (Some n) = refl
asked line None = refl

no_buffer : (line : ℕ) (a : Option ℕ) → buffer_of (by_seconds line a) ≡ 0
no_buffer line (Some n) = refl
no_buffer line None = refl

seconds_none : (line : ℕ) (text : List ℕ) → buffer_of (seconds_item line text) ≤ message_limit
unfolding seconds_item
seconds_none line text = rw (no_buffer line (amount_of 255 text)) zero-le

taking_fits : (line : ℕ) (text : List ℕ) → buffer_of (taking_item line text) ≤ message_limit
unfolding taking_item
taking_fits line text = rw (asked line (amount_of message_limit text)) (value_of_law message_limit text)

digits_none : (line : ℕ) (high low : Option ℕ) → buffer_of (by_digits line high low) ≤ message_limit
digits_none line (Some high) (Some low) = zero-le
digits_none line (Some high) None = zero-le
digits_none line None low = zero-le

byte_none : (line : ℕ) (text : List ℕ) → buffer_of (byte_item line text) ≤ message_limit
unfolding byte_item
byte_none line text =
    either (eqb (length text) 2) (by_digits line (hex_value (get_or text 0 0)) (hex_value (get_or text 1 0))) None
    (digits_none line (hex_value (get_or text 0 0)) (hex_value (get_or text 1 0))) zero-le

operand_fits : (line letter : ℕ) (text : List ℕ) → buffer_of (operand_of line letter text) ≤ message_limit
unfolding operand_of
operand_fits line letter text =
    either (eqb letter 0x42) _ _ (byte_none line text) (either (eqb letter 0x53) _ _ (seconds_none line text) (either (eqb letter 0x54) _ _ (taking_fits line text) zero-le))

pub buffer_fits : (text : List ℕ) (line n : ℕ) → item_of text ≡ Some (Taking line n) → n ≤ message_limit
unfolding item_of
buffer_fits text line n e =
    let k : buffer_of (item_of text) ≤ message_limit = either (is_laid_out text) _ _ (operand_fits (get_or text 0 0 - 0x30) (get_or text 2 0) (drop operand_at text)) zero-le in
    let m : buffer_of (item_of text) ≡ n = ap buffer_of e in
    omega arith

-- `digits::check_digits` meets its contract: its list is the rule's values at the numbers below 16, which antt computes and compares.
-- Assumes nothing.
use Rattle.std.proofs.Common.{◌≡◌, ℕ, ◌/◌, ◌%◌, ◌<◌, List, get_or, arith}
use Rattle.memory.proofs.Table.{values, entry}
use Rattle.digits.specs.Check.{hex_digit, digits_of}
use Rattle.digits.proofs.check_digits.Goals as goal

-- the rule's values at the numbers below 16
abbrev list : List ℕ
list = values hex_digit 0 16

-- those at the two halves of a check are its digits
at_halves : (check : ℕ) → check < 256 → record { high = get_or list (check / 16) 0; low = get_or list (check % 16) 0 } ≡ digits_of check
unfolding digits_of
at_halves check h = rw (entry hex_digit 0 16 (check / 16) (omega (arith, h)), entry hex_digit 0 16 (check % 16) (omega arith))

pub returns : goal.returns
unfolding hex_digit
returns c = at_halves c.args.check (omega arith)

-- `listing::reading::amount_of` meets its contract: what is passed are digits, and n is their decimal, not yet over the limit.
-- Assumes nothing.
use Rattle.std.proofs.Common.{◌≡◌, ◌+◌, ◌≤◌, drop}
use Rattle.memory.specs.Tests.{all}
use Rattle.sequence.specs.Numbers.{is_digit, decimal}
use Rattle.listing.specs.Items.{operand_at}
use Rattle.listing.proofs.reading.amount_of.Given as goal

abbrev pub invariant-loop-b : goal.invariant-loop-b
invariant-loop-b l = (l.n ≤ l.most)
    × (decimal l.n (drop (operand_at + l.b-index) l.text) ≡ decimal 0 (drop operand_at l.text))
    × (all is_digit (drop (operand_at + l.b-index) l.text) ≡ all is_digit (drop operand_at l.text))

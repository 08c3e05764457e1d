-- `listing::reading::byte_item` meets its contract.
-- Assumes nothing.
use Rattle.std.proofs.Common.{arith, rules}
use Rattle.listing.proofs.Operands.{byte_length, byte_is}
use Rattle.listing.proofs.reading.byte_item.Goals as goal

pub returns-then-text : goal.returns-then-text
returns-then-text c = byte_length c.args.line c.args.text.now (search rules) c.if-text.true

pub returns-in_err-high : goal.returns-in_err-high
returns-in_err-high c =
    rw (c.from_residual.ensures, ← byte_is c.args.line c.args.text.now (omega arith), ← c.hex_value.ensures.value, c.in_err-high.was)

pub returns-in_err-low : goal.returns-in_err-low
returns-in_err-low c =
    rw (c.from_residual-in_err-low.ensures, ← byte_is c.args.line c.args.text.now (omega arith), ← c.hex_value.ensures.value, c.in_ok-high.was, ← c.hex_value-2.ensures.value, c.in_err-low.was)

pub returns : goal.returns
returns c =
    rw (← byte_is c.args.line c.args.text.now (omega arith), ← c.hex_value.ensures.value, c.in_ok-high.was, ← c.hex_value-2.ensures.value, c.in_ok-low.was)

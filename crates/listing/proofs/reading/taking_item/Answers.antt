-- `listing::reading::taking_item` meets its contract.
-- Assumes nothing.
use Rattle.listing.specs.Items.{taking_item}
use Rattle.listing.proofs.reading.taking_item.Goals as goal

pub returns : goal.returns
unfolding taking_item
returns c = rw (← c.amount_of.ensures, c.in_ok-n.was)

pub returns-in_err-n : goal.returns-in_err-n
unfolding taking_item
returns-in_err-n c = rw (c.from_residual.ensures, ← c.amount_of.ensures, c.in_err-n.was)

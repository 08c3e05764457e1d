-- `kinds::may_follow` meets its contract: the table is its rule's values at the eight types, row by row, which antt computes and compares.
-- Assumes nothing.
use Rattle.kinds.specs.Kinds.{may_follow}
use Rattle.kinds.proofs.Rows.{variant_row, follower_at}
use Rattle.kinds.proofs.may_follow.Goals as goal

pub returns : goal.returns
unfolding may_follow
returns c = let a = c.args in rw (variant_row a.other, variant_row a.k) (follower_at a.other a.k)

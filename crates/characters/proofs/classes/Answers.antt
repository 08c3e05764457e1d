-- `characters::classes` meets its contract: the table is its rule's 256 values, which antt computes and compares, entry by entry.
-- Assumes nothing.
use Rattle.std.proofs.Common.{refl}
use Rattle.characters.specs.Allowed.{allowed, class_table}
use Rattle.characters.proofs.classes.Goals as goal

pub returns : goal.returns
unfolding class_table allowed
returns c = refl

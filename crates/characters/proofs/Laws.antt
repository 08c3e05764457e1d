-- How many bytes the table allows: the count of rule F5.
-- Assumes nothing.
use Rattle.std.proofs.Common.{◌≡◌, refl}
use Rattle.memory.specs.Tests.{count}
use Rattle.memory.proofs.Table.{values}
use Rattle.characters.specs.Allowed.{allowed}

-- 227 of the 256 are allowed
pub allowed_count : count allowed (values (λ b. b) 0 256) ≡ 227
unfolding allowed
allowed_count = refl

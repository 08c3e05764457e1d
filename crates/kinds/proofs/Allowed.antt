-- Allowed fours: the standard one is, its bytes are different, and there are 32 bytes to choose from.
-- Assumes nothing.
use mathlib.Core.Path.{◌≡◌, refl}
use mathlib.Core.Bool.{true, ◌&&◌}
use Rattle.memory.specs.Tests.{count}
use Rattle.memory.proofs.Table.{values}
use Rattle.memory.proofs.Tests.{and_right}
use Rattle.kinds.specs.Delimiters.{standard, is_delimiter, different, are_delimiters}
use Rattle.kinds.specs.declared.Delimiters.{Delimiters}

pub standard_allowed : are_delimiters standard ≡ true
unfolding are_delimiters is_delimiter different
standard_allowed = refl

pub allowed_different : (d : Delimiters) → are_delimiters d ≡ true → different d ≡ true
unfolding are_delimiters
allowed_different d h = and_right (is_delimiter d.field && is_delimiter d.repeat && is_delimiter d.component && is_delimiter d.escape) (different d) h

-- of the 256 bytes exactly 32 may be delimiters
pub thirty_two : count is_delimiter (values (λ b. b) 0 256) ≡ 32
unfolding is_delimiter
thirty_two = refl

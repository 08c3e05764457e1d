-- How deep a record stands for the two readers of owners.
-- Assumes nothing.
use Rattle.kinds.specs.declared.Kind.{Kind}
use Rattle.std.specs.Prelude.{ℕ, suc, None, Option, Some}
use Rattle.kinds.specs.Kinds.{kind_of}
use Rattle.kinds.specs.declared.Kind.TheVariants.{Result}
use Rattle.owner.specs.Levels.{level_of}

-- how deep the readers take a record of a type to stand, counted from 1. A C or M owns nothing, so it may stand below every other type:
-- its owner is then still the last other record.
abbrev pub depth_by : Option Kind → ℕ
depth_by (Some k) = suc (level_of (level_of 0 Result) k)
depth_by None = 5

unfoldable pub depth_of : ℕ → ℕ
depth_of b = depth_by (kind_of b)

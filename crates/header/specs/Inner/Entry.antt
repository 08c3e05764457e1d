-- A header that is looked at and found whole, and lists of bytes.
-- Assumes nothing.
use Rattle.std.specs.Prelude.{ℕ, ◌<◌, List, [], ◌∷◌, cond, Option, Some, None}
use Rattle.header.specs.declared.Header.{Header}
use Rattle.header.specs.Entry.{is_head}

-- a header where it begins an entry within n bytes, else none
unfoldable pub whole_head : Header → ℕ → Option Header
whole_head h n = cond (is_head h n) (Some h) None

-- numbers that are bytes
abbrev pub Bytes : List ℕ → Type 0
Bytes [] = Unit {0}
Bytes (b ∷ bs) = (b < 256) × Bytes bs

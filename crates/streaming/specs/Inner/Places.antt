-- Places that lie within their memory.
-- Assumes nothing.
use Rattle.std.specs.Prelude.{ℕ, ◌≤◌}
use Rattle.streaming.specs.declared.Kept.{Kept}

-- what waits lies in an input of so many bytes
abbrev pub LiesIn : Kept → ℕ → Type 0
LiesIn k most = (k.from ≤ k.end) × (k.end ≤ most)

-- The bytes that most texts are of.
-- Assumes nothing.
use Rattle.std.specs.Prelude.{ℕ, Bool, ◌||◌}
use Rattle.memory.specs.Tests.{is, between}
use Rattle.characters.specs.Control.{cr}

-- 20 to 7E, and 0D, which is counted with them
unfoldable pub printable : ℕ → Bool
printable b = is cr b || between 0x20 0x7e b

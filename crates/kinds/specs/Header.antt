-- How a message begins: its first record names the delimiters that it goes by.
-- Assumes nothing.
use Rattle.std.specs.Prelude.{ℕ, List, Bool, ◌&&◌, leb, length, get_or}
use Rattle.memory.specs.Tests.{is}
use Rattle.kinds.specs.Kinds.{letter_of}
use Rattle.kinds.specs.declared.Kind.TheVariants.{Header}
use Rattle.kinds.specs.declared.Delimiters.{Delimiters}

-- a record that begins with H and the four delimiters [R3]
unfoldable pub is_header : Delimiters → List ℕ → Bool
is_header d r =
    leb 5 (length r) && is (letter_of Header) (get_or r 0 0) && is d.field (get_or r 1 0) && is d.repeat (get_or r 2 0)
    && is d.component (get_or r 3 0) && is d.escape (get_or r 4 0)

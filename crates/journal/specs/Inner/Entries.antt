-- The bytes of a chain of entries.
-- Assumes nothing.
use Rattle.std.specs.Prelude.{ℕ, List, [], ◌∷◌, ◌++◌}
use Rattle.header.specs.Entry.{Entry, encode}

-- the bytes of a chain
abbrev pub flatten : List Entry → List ℕ
flatten [] = []
flatten (e ∷ es) = encode e ++ flatten es

-- Where a component ends.
-- Assumes nothing.
use Rattle.std.specs.Prelude.{ℕ, ◌+◌, List, [], ◌∷◌, drop}
use Rattle.memory.specs.Tests.{is_one_of, find}
use Rattle.characters.specs.Control.{cr}
use Rattle.kinds.specs.declared.Delimiters.{Delimiters}

-- a component ends at | \ ^ or CR; & goes on [R16]
abbrev pub stops_of : Delimiters → List ℕ
stops_of d = d.field ∷ d.repeat ∷ d.component ∷ cr ∷ []

-- the end of the component that starts at `start`: the first such byte from there on, or the end of the text.
-- A start past the end is its own end. [R16]
abbrev pub component_end : Delimiters → List ℕ → ℕ → ℕ
component_end d text start = start + find (is_one_of (stops_of d)) (drop start text)

-- What a byte that is only collected has tested in one.
-- Assumes nothing.
use Rattle.std.specs.Prelude.{ℕ, Bool, ◌&&◌, eqb}
use Rattle.layout.specs.Layout.{frames}

-- no tries and no place, the line speaks frames, and it does not refuse
abbrev pub receives : ℕ → ℕ → ℕ → ℕ → Bool
receives tries place speaks refusing = eqb tries 0 && (eqb place 0 && (eqb speaks frames && eqb refusing 0))

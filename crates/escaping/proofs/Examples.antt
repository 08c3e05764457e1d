-- The escapes by example: the four, and what is refused.
-- Assumes nothing.
use Rattle.std.specs.Prelude.{None, Some}
use mathlib.Core.Path.{◌≡◌, refl}
use mathlib.Core.List.{[], ◌∷◌}
use Rattle.kinds.specs.Delimiters.{standard}
use Rattle.escaping.specs.Letters.{meant}
use Rattle.escaping.specs.Unescape.{unescaped}

-- &F&&S&&R&&E& stands for | ^ \ &
pub four_escapes : unescaped standard (0x26 ∷ 0x46 ∷ 0x26 ∷ 0x26 ∷ 0x53 ∷ 0x26 ∷ 0x26 ∷ 0x52 ∷ 0x26 ∷ 0x26 ∷ 0x45 ∷ 0x26 ∷ []) ≡ Some (0x7c ∷ 0x5e ∷ 0x5c ∷ 0x26 ∷ [])
unfolding meant
four_escapes = refl

-- &X&, which is another escape; A&, a lone escape byte; A|, a bare delimiter
pub another_letter : unescaped standard (0x26 ∷ 0x58 ∷ 0x26 ∷ []) ≡ None
unfolding meant
another_letter = refl

pub lone_escape : unescaped standard (0x41 ∷ 0x26 ∷ []) ≡ None
lone_escape = refl

pub bare_delimiter : unescaped standard (0x41 ∷ 0x7c ∷ []) ≡ None
bare_delimiter = refl

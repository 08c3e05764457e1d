-- Bytes without the spaces at their ends; spaces between others stay. [B8]
-- Assumes nothing.
use Rattle.std.specs.Prelude.{ℕ, Bool, cond, List, [], ◌∷◌}
use Rattle.memory.specs.Tests.{is, all}

abbrev pub is_space : ℕ → Bool
is_space b = is 0x20 b

-- without those in front
unfoldable pub trimmed_front : List ℕ → List ℕ
trimmed_front [] = []
trimmed_front (b ∷ bs) = cond (is_space b) (trimmed_front bs) (b ∷ bs)

-- without those behind
unfoldable pub trimmed_back : List ℕ → List ℕ
trimmed_back [] = []
trimmed_back (b ∷ bs) = cond (all is_space (b ∷ bs)) [] (b ∷ trimmed_back bs)

-- without either [B8]
abbrev pub trimmed : List ℕ → List ℕ
trimmed bs = trimmed_back (trimmed_front bs)

-- What each line speaks, put into the numbers.
-- Assumes nothing.
use Rattle.std.specs.Prelude.{ℕ, ◌+◌, List, get_or, set}
use Rattle.layout.specs.Layout.{start, speaks_at}

-- what line i speaks
abbrev pub speaks_put : List ℕ → List ℕ → ℕ → List ℕ
speaks_put ts ns i = set ns (start i + speaks_at) (get_or ts i 0)

abbrev pub all_put : List ℕ → List ℕ → List ℕ
all_put ts ns =
    speaks_put ts (speaks_put ts (speaks_put ts (speaks_put ts (speaks_put ts (speaks_put ts (speaks_put ts (speaks_put ts ns 0) 1) 2) 3) 4) 5) 6) 7

-- The room rule. The shares are a list, one for each line: today all are equal, and request [9] will let them change.
-- Assumes nothing.
use Rattle.std.specs.Prelude.{ℕ, zero, suc, ◌+◌, max, List, Bool, get_or, set, replicate, leb}
use Rattle.memory.specs.Sizes.{lines, journal_size}

-- what each line is sure of [J5]
abbrev pub share : ℕ
share = 2048

-- today all are equal [J5]
abbrev pub todays_shares : List ℕ
todays_shares = replicate lines share

-- f 0 + .. + f (n - 1)
abbrev pub sum_to : ℕ → (ℕ → ℕ) → ℕ
sum_to zero f = 0
sum_to (suc n) f = sum_to n f + f n

-- what a line claims of the journal: the larger of its used count and its share [J5]
abbrev pub claim : List ℕ → List ℕ → ℕ → ℕ
claim shares used l = max (get_or used l 0) (get_or shares l 0)

-- of all lines together [J6]
unfoldable pub claims : List ℕ → List ℕ → ℕ
claims shares used = sum_to lines (claim shares used)

-- all claims together do not exceed the journal [J6, J7]
abbrev pub fits : List ℕ → List ℕ → Bool
fits shares used = leb (claims shares used) journal_size

-- the used counts with n more on line l
abbrev pub raised : List ℕ → ℕ → ℕ → List ℕ
raised used l n = set used l (get_or used l 0 + n)

-- The fields of a record: what stands between its field delimiters.
-- Assumes nothing.
use Rattle.std.specs.Prelude.{ℕ, zero, suc, ◌+◌, List, [], take, drop}
use Rattle.memory.specs.Tests.{is, find}

-- the bytes before the first b, and those after it (none where there is no b)
abbrev pub before : ℕ → List ℕ → List ℕ
before b r = take (find (is b) r) r

abbrev pub behind : ℕ → List ℕ → List ℕ
behind b r = drop (find (is b) r + 1) r

-- the field with a number, counted from 1; an absent field is empty, and so is one with number 0 [R4]
abbrev pub field_of : ℕ → ℕ → List ℕ → List ℕ
field_of b zero r = []
field_of b (suc zero) r = before b r
field_of b (suc (suc n)) r = field_of b (suc n) (behind b r)

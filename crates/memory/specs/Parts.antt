-- Parts of lent memory: what lies in one, and the memory with one written over.
-- Assumes nothing.
use Rattle.std.specs.Prelude.{ℕ, ◌+◌, List, ◌++◌, length, take, drop}

-- the n bytes of d from `at` on
unfoldable pub part : {A : Type 0} → List A → ℕ → ℕ → List A
part d at n = take n (drop at d)

-- d with s in the place of its bytes from `at` on
unfoldable pub splice : {A : Type 0} → List A → ℕ → List A → List A
splice d at s = take at d ++ (s ++ drop (at + length s) d)

-- A table that is its rule at every place: antt computes the rule's values and compares them with the table, entry by entry, and so the
-- table has the rule's value at each index. No proof writes the table again. At any type of entry, so also for a table of rows.
-- Assumes nothing.
use mathlib.Core.Path.{◌≡◌, sym, ap, ◌∙◌}
use mathlib.Core.List.{List, [], ◌∷◌}
use Prim.Native.Nat.{ℕ, zero, suc, ◌+◌, ◌<◌}
use native.Mathlib.Nat.{add-zero, zero-add, add-suc, suc-add, le_of_suc-le-suc, not-suc-le-zero}
use lib.ListN.{get_or}

-- the rule's n values from i on
abbrev pub values : {A : Type 0} → (ℕ → A) → ℕ → ℕ → List A
values r i zero = []
values r i (suc n) = r i ∷ values r (suc i) n

from : {A : Type 0} (r : ℕ → A) (z : A) (n i k : ℕ) → k < n → get_or (values r i n) k z ≡ r (i + k)
from r z zero i k h = absurd (not-suc-le-zero h)
from r z (suc n) i zero h = ap r (sym (add-zero i))
from r z (suc n) i (suc k) h = from r z n (suc i) k (le_of_suc-le-suc h) ∙ ap r (suc-add i k ∙ sym (add-suc i k))

pub entry : {A : Type 0} (r : ℕ → A) (z : A) (n k : ℕ) → k < n → get_or (values r 0 n) k z ≡ r k
entry r z n k h = from r z n 0 k h ∙ ap r (zero-add k)

-- a table of m rows of n
pub entry_of_row : {A : Type 0} (r : ℕ → ℕ → A) (z : A) (m n j k : ℕ) → j < m → k < n → get_or (get_or (values (λ j. values (r j) 0 n) 0 m) j []) k z ≡ r j k
entry_of_row r z m n j k p q = ap (λ (row : List _). get_or row k z) (entry (λ j. values (r j) 0 n) [] m j p) ∙ entry (r j) z n k q

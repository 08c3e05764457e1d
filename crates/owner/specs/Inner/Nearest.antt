-- The nearest record that stands less deep than a record: what the two readers of owners find, and what each of them asks and gives.
-- Assumes nothing.
use Rattle.std.specs.Prelude.{ℕ, zero, suc, ◌<◌, ◌≤◌, ◌≡◌, List, [], ◌∷◌, cond, ltb, length, get_or}
use Rattle.owner.specs.Inner.Depths.{depth_of}

-- of the records with these types, the one at index k
abbrev pub depth_at : List ℕ → ℕ → ℕ
depth_at ts k = depth_of (get_or ts k 0)

-- the number, from 1, of the last of the first n records that stands less deep than l; 0 if there is none
abbrev pub nearest : List ℕ → ℕ → ℕ → ℕ
nearest ts zero l = 0
nearest ts (suc k) l = cond (ltb (depth_at ts k) l) (suc k) (nearest ts k l)

unfoldable pub nearest_owner : List ℕ → ℕ → ℕ
nearest_owner ts k = nearest ts k (depth_at ts k)

abbrev pub nearest_from : List ℕ → ℕ → ℕ → List ℕ
nearest_from ts n zero = []
nearest_from ts n (suc c) = nearest_owner ts n ∷ nearest_from ts (suc n) c

abbrev pub nearest_owners : List ℕ → List ℕ
nearest_owners ts = nearest_from ts 0 (length ts)

-- what a run that starts at record n asks: where the record stands deeper than `over`, it belongs to `owner`, and so would any that is not
-- deeper than it
abbrev pub Ready : List ℕ → ℕ → ℕ → ℕ → Type 0
Ready ts over n owner = n < length ts → (l : ℕ) → over < l → l ≤ depth_at ts n → nearest ts n l ≡ owner

-- what a run gives: the records from n up to m have their owners, those from s on stand deeper than `over`, and record m does not; other
-- entries keep their value
pub record Ran (ts os os' : List ℕ) (over n s m : ℕ) : Type 0 where
  pub up : s ≤ m
  pub within : m ≤ length ts
  pub deeper : (k : ℕ) → s ≤ k → k < m → over < depth_at ts k
  pub stops : m < length ts → depth_at ts m ≤ over
  pub done : (k : ℕ) → n ≤ k → k < m → get_or os' k 0 ≡ nearest_owner ts k
  pub before : (k : ℕ) → k < n → get_or os' k 0 ≡ get_or os k 0
  pub behind : (k : ℕ) → m ≤ k → get_or os' k 0 ≡ get_or os k 0

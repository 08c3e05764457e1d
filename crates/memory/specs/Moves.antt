-- Copying into lent memory, and closing up a gap in it.
-- Assumes nothing.
use Rattle.std.specs.Prelude.{ℕ, ◌+◌, ◌-◌, ◌≡◌, Bool, cond, ◌&&◌, List, length, leb}
use Rattle.memory.specs.Parts.{part, splice}

-- s fits into d at `at`
abbrev pub fits_at : List ℕ → ℕ → List ℕ → Bool
fits_at d at s = leb (at + length s) (length d)

-- d after s is copied to `at`: unchanged where s does not fit
unfoldable pub copied : List ℕ → ℕ → List ℕ → List ℕ
copied d at s = cond (fits_at d at s) (splice d at s) d

-- `gap` bytes at `at` lie within the first `end` bytes, and these within d
abbrev pub has_gap : List ℕ → ℕ → ℕ → ℕ → Bool
has_gap d at gap end = leb end (length d) && leb (at + gap) end

-- the bytes from the gap's end up to `end`, which move down by `gap`
abbrev pub later : List ℕ → ℕ → ℕ → ℕ → List ℕ
later d at gap end = part d (at + gap) (end - (at + gap))

-- d after the gap is closed up: the later bytes stand in its place, and from the new end on every byte keeps its value [J12]
unfoldable pub closed_up : List ℕ → ℕ → ℕ → ℕ → List ℕ
closed_up d at gap end = cond (has_gap d at gap end) (splice d at (later d at gap end)) d

-- what copying says: whether it was done, and the memory after it
pub record Copied (d : List ℕ) (at : ℕ) (s : List ℕ) (r : Bool) (d' : List ℕ) : Type 0 where
  pub answer : r ≡ fits_at d at s
  pub after : d' ≡ copied d at s

-- what closing up says: whether it was done, and the memory after it
pub record ClosedUp (d : List ℕ) (at gap end : ℕ) (r : Bool) (d' : List ℕ) : Type 0 where
  pub answer : r ≡ has_gap d at gap end
  pub after : d' ≡ closed_up d at gap end

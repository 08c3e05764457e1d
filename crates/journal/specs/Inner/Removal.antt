-- What the parts of a taking ask and say.
-- Assumes nothing.
use Rattle.std.specs.Prelude.{◌≡◌, ℕ, ◌+◌, ◌<◌, ◌≤◌, true, List, length, take, drop, slice_index}
use Rattle.memory.specs.Sizes.{lines}
use Rattle.memory.specs.Parts.{part, splice}
use Rattle.memory.specs.Moves.{later, copied}
use Rattle.header.specs.Header.{head_size, entry_size}
use Rattle.header.specs.Entry.{starts, first, size}
use Rattle.journal.specs.declared.Ledger.{Ledger}
use Rattle.journal.specs.declared.Taking.{Taking}
use Rattle.journal.specs.Removal.{take_at}

-- the bytes in use from `at` on
abbrev pub rest : Ledger → ℕ → List ℕ → List ℕ
rest d at j = drop at (take d.in_use j)

-- what taking out an entry with a text of n bytes at `at` does to the journal and the buffer
pub record TakenOut (at n end : ℕ) (j b j' b' : List ℕ) : Type 0 where
  pub after : j' ≡ splice j at (later j at (entry_size n) end)
  pub lent : b' ≡ copied b 0 (part j (at + head_size n) n)

-- what the taking of the entry at `at` asks
pub record Stands (d : Ledger) (l at : ℕ) (j : List ℕ) : Type 0 where
  pub line : l < lines
  pub room : d.in_use ≤ length j
  pub whole : starts (rest d at j) ≡ true
  pub within : at + size (first (rest d at j)) ≤ d.in_use
  pub counted : size (first (rest d at j)) ≤ slice_index d.used l

-- and what it says
pub record TakenAt (d : Ledger) (l at : ℕ) (j b : List ℕ) (r : Taking) (j' b' : List ℕ) : Type 0 where
  pub result : r ≡ (take_at d l at (first (rest d at j)) j b).taking
  pub after : j' ≡ (take_at d l at (first (rest d at j)) j b).journal
  pub lent : b' ≡ (take_at d l at (first (rest d at j)) j b).buffer

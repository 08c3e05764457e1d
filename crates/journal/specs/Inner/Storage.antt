-- What the writing of an entry asks and says.
-- Assumes nothing.
use Rattle.std.specs.Prelude.{◌≡◌, ℕ, ◌+◌, ◌<◌, ◌≤◌, List, length, slice_index_or}
use Rattle.memory.specs.Sizes.{lines, message_limit, journal_size}
use Rattle.memory.specs.Parts.{splice}
use Rattle.header.specs.Header.{entry_size}
use Rattle.header.specs.Entry.{encode}
use Rattle.journal.specs.declared.Ledger.{Ledger}
use Rattle.journal.specs.Storage.{appended, grown}

-- an entry at a place of the journal: every other byte keeps its value
abbrev pub written : ℕ → ℕ → ℕ → List ℕ → List ℕ → List ℕ
written l serial at t j = splice j at (encode (record { line = l; serial = serial; text = t }))

-- what the writing of an entry asks: all that its sums and its places need
pub record Ready (d : Ledger) (l : ℕ) (t j : List ℕ) : Type 0 where
  pub line : l < lines
  pub most : length t ≤ message_limit
  pub long : length j ≡ journal_size
  pub room : d.in_use + entry_size (length t) ≤ length j
  pub counted : slice_index_or d.used l 0 ≤ d.in_use

-- and what it says
pub record Appended (d : Ledger) (l : ℕ) (t j : List ℕ) (r : Ledger) (j' : List ℕ) : Type 0 where
  pub result : r ≡ grown d l (length t)
  pub after : j' ≡ appended d l t j

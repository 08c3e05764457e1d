-- The invariant of ledger and journal, over any shares.
-- Assumes nothing.
use Rattle.std.specs.Prelude.{ℕ, ◌<◌, ◌≤◌, ◌≡◌, List, length, get_or, Some}
use Rattle.memory.specs.Sizes.{lines, journal_size}
use Rattle.header.specs.Header.{serial_count}
use Rattle.header.specs.Entry.{Entry}
use Rattle.journal.specs.Chain.{chain}
use Rattle.room.specs.Room.{claims}
use Rattle.journal.specs.declared.Ledger.{Ledger}

-- the journal is whole and holds the entries es, the ledger is a ledger's, and the lines' claims fit the journal
pub record Held (shares : List ℕ) (d : Ledger) (j : List ℕ) (es : List Entry) : Type 0 where
  pub long : length j ≡ journal_size
  pub lines_used : length d.used ≡ lines
  pub lines_serials : length d.serials ≡ lines
  pub serials : (l : ℕ) → l < lines → get_or d.serials l 0 < serial_count
  pub whole : chain d j ≡ Some es
  pub claimed : claims shares d.used ≤ journal_size

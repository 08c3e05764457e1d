-- What a host keeps when all is well.
-- Assumes nothing.
use Rattle.std.specs.Prelude.{ℕ, ◌<◌, ◌≡◌, List, Some}
use Rattle.memory.specs.Sizes.{lines}
use Rattle.header.specs.Header.{serial_count}
use Rattle.header.specs.Entry.{Entry}
use Rattle.room.specs.Room.{todays_shares}
use Rattle.journal.specs.Chain.{chain}
use Rattle.journal_laws.specs.Held.{Held}
use Rattle.promises.specs.Runs.{RightSizes}
use Rattle.layout.specs.Layout.{serial_at, number_at}
use Rattle.ledger.specs.Ledgers.{ledger_of}
use Rattle.calls.specs.Calls.{HostState}
use Rattle.ngachodui_laws.specs.HostRuns.{InOrder}

-- numbers in order, memory of the right sizes, serials of 16 bits, and a whole journal that holds these entries
pub record Intact (s : HostState) : Type 0 where
  pub in_order : InOrder s
  pub sizes : RightSizes s.memory
  pub serials : (i : ℕ) → i < lines → number_at s.numbers i serial_at < serial_count
  pub entries : List Entry
  pub whole : chain (ledger_of s.numbers s.counts) s.memory.journal ≡ Some entries

-- the journal is whole, holds these entries, and keeps every line's share
abbrev pub Holds : HostState → List Entry → Type 0
Holds s es = Held todays_shares (ledger_of s.numbers s.counts) s.memory.journal es

pub record Sound (s : HostState) : Type 0 where
  pub intact : Intact s
  pub holds : Holds s intact.entries

-- The ledger in plain numbers, as a host keeps it, and what each function does to these. On a line that is not there nothing changes.
-- Assumes nothing.
use Rattle.std.specs.Prelude.{ℕ, zero, suc, ◌+◌, ◌^◌, ◌<◌, ◌≡◌, List, [], ◌∷◌, get_or, set, ltb}
use Rattle.memory.specs.Sizes.{lines}
use Rattle.memory.specs.Tests.{unless}
use Rattle.journal.specs.declared.Ledger.{Ledger}
use Rattle.layout.specs.Layout.{start, serial_at, number_at}

-- n lines' used counts, the first that of line i; behind all of them stand the bytes in use
abbrev pub used_from : List ℕ → ℕ → ℕ → List ℕ
used_from us i zero = []
used_from us i (suc n) = get_or us i 0 ∷ used_from us (suc i) n

-- and their serials, which stand with the lines
abbrev pub serials_from : List ℕ → ℕ → ℕ → List ℕ
serials_from ns i zero = []
serials_from ns i (suc n) = number_at ns i serial_at ∷ serials_from ns (suc i) n

-- the ledger that they stand for [H1]
unfoldable pub ledger_of : List ℕ → List ℕ → Ledger
ledger_of ns us = record { in_use = get_or us lines 0; used = used_from us 0 lines; serials = serials_from ns 0 lines }

-- the numbers with another serial of line i; and the counts with another one of line i, and so many bytes in use
abbrev pub serial_put : List ℕ → ℕ → ℕ → List ℕ
serial_put ns i n = set ns (start i + serial_at) n

abbrev pub counts_put : List ℕ → ℕ → ℕ → ℕ → List ℕ
counts_put us i own all = set (set us i own) lines all

-- the numbers with what a ledger has of line i: no event and no taking changes what it has of another line
abbrev pub with_serial : List ℕ → ℕ → Ledger → List ℕ
with_serial ns i d = serial_put ns i (get_or d.serials i 0)

abbrev pub with_used : List ℕ → ℕ → Ledger → List ℕ
with_used us i d = counts_put us i (get_or d.used i 0) d.in_use

-- the bytes in use are a number of 32 bits
abbrev pub Narrow : Ledger → Type 0
Narrow d = d.in_use < 2 ^ 32

-- the ledger that the numbers stand for
pub record LedgerRead (ns us : List ℕ) (d : Ledger) : Type 0 where
  pub result : d ≡ ledger_of ns us
  pub narrow : Narrow d

-- another serial, and other counts
abbrev pub serial_after : List ℕ → ℕ → ℕ → List ℕ
serial_after ns i n = unless (ltb i lines) ns (serial_put ns i n)

abbrev pub counts_after : List ℕ → ℕ → ℕ → ℕ → List ℕ
counts_after us i own all = unless (ltb i lines) us (counts_put us i own all)

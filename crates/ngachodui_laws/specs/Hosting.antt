-- The gateway that a host's numbers stand for.
-- Assumes nothing.
use Rattle.std.specs.Prelude.{ℕ, zero, suc, ◌+◌, ◌<◌, ◌≡◌, Bool, true, ◌||◌, List, [], ◌∷◌, eqb, length}
use Rattle.memory.specs.Sizes.{lines}
use Rattle.memory.specs.Tests.{between}
use Rattle.line.specs.declared.Line.{Line}
use Rattle.strips.specs.Readers.{Memo}
use Rattle.gateway.specs.Gateway.{Gateway}
use Rattle.layout.specs.Layout.{fields, kept_at, number_at, numbers_size}
use Rattle.ledger.specs.Ledgers.{ledger_of}
use Rattle.numbers.specs.Plain.{reader_fits, within_numbers, line_of}
use Rattle.keeping.specs.Keeping.{memo_of}

-- n lines' records, the first that of line i
abbrev pub lines_of : List ℕ → ℕ → ℕ → List Line
lines_of ns i zero = []
lines_of ns i (suc n) = line_of ns i ∷ lines_of ns (suc i) n

-- and what is kept of a strip reader on each
abbrev pub memos_of : List ℕ → ℕ → ℕ → List Memo
memos_of ns i zero = []
memos_of ns i (suc n) = memo_of ns i ∷ memos_of ns (suc i) n

abbrev pub gateway_of : List ℕ → List ℕ → Gateway
gateway_of ns us = record { lines = lines_of ns 0 lines; memos = memos_of ns 0 lines; ledger = ledger_of ns us }

-- a host's numbers in order: as many as there must be, every line's are those of a record within its limits and of what can be kept of a reader,
-- and the spare ones are 0
pub record Ordered (ns us : List ℕ) : Type 0 where
  pub numbers : length ns ≡ numbers_size
  pub counts : length us ≡ lines + 1
  pub within : (i : ℕ) → i < lines → within_numbers ns i ≡ true
  pub readers : (i : ℕ) → i < lines → reader_fits ns i ≡ true
  pub spare : (i : ℕ) → i < lines → (k : ℕ) → kept_at < k → k < fields → number_at ns i k ≡ 0

-- the numbers of refusals: 20, 40 to 47, and 60
abbrev pub is_refusal : ℕ → Bool
is_refusal n = eqb n 20 || (between 40 47 n || eqb n 60)

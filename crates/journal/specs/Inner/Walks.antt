-- What the walk over the journal and the look at it find.
-- Assumes nothing.
use Rattle.std.specs.Prelude.{◌≡◌, ℕ, ◌<◌, List, slice_index, Option, Some, None}
use Rattle.memory.specs.Sizes.{lines}
use Rattle.header.specs.Entry.{Entry}
use Rattle.journal.specs.Entries.{entries, sizes, total, before}
use Rattle.journal.specs.declared.Ledger.{Ledger}
use Rattle.journal.specs.Chain.{chain}
use Rattle.journal.specs.declared.chain.Sums.{Sums}

-- what one walk over a whole chain finds: each line's sum, and where the oldest entry of line l stands
pub record Summed (bs : List ℕ) (l : ℕ) (w : Sums) : Type 0 where
  pub es : List Entry
  pub there : entries bs ≡ Some es
  pub summed : (k : ℕ) → k < lines → slice_index w.sums k ≡ total k es
  pub stands : w.oldest ≡ sizes (before l es)

-- one walk over any bytes: it finds nothing exactly where they are no whole chain
abbrev pub Walked : List ℕ → ℕ → Option Sums → Type 0
Walked bs l None = entries bs ≡ None
Walked bs l (Some w) = Summed bs l w

-- what a look at a whole journal finds: where the oldest entry of line l stands
pub record Standing (d : Ledger) (l : ℕ) (j : List ℕ) (oldest : ℕ) : Type 0 where
  pub es : List Entry
  pub is : chain d j ≡ Some es
  pub stands : oldest ≡ sizes (before l es)

-- a look at any journal: it finds nothing exactly where the journal is broken
abbrev pub Seen : Ledger → ℕ → List ℕ → Option ℕ → Type 0
Seen d l j None = chain d j ≡ None
Seen d l j (Some oldest) = Standing d l j oldest

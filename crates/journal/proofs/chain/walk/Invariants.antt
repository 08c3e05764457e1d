-- `journal::chain::walk` meets its contract. The loop's invariant: the walk has passed the entries `done`, `sums` are their sums, and `oldest` is the room
-- of those before the line's first.
-- Assumes nothing.
use Rattle.std.proofs.Common.{◌≡◌, ℕ, ◌-◌, ◌<◌, List, length, get_or}
use Rattle.memory.specs.Sizes.{lines}
use Rattle.header.specs.Entry.{Entry}
use Rattle.journal.specs.Entries.{sizes, total, before}
use Rattle.journal.proofs.Chains.{Passed}
use Rattle.journal.proofs.chain.walk.Given as goal

pub record Counted (s : List ℕ) (line : ℕ) (sums : List ℕ) (oldest at : ℕ) : Type 0 where
  pub done : List Entry
  pub walked : Passed s at done
  pub summed : (l : ℕ) → l < lines → get_or sums l 0 ≡ total l done
  pub long : length sums ≡ lines
  pub stands : oldest ≡ sizes (before line done)

abbrev pub invariant-loop-at : goal.invariant-loop-at
invariant-loop-at l = Counted l.s l.line l.sums l.oldest l.at

abbrev pub decreases-loop-at : goal.decreases-loop-at
decreases-loop-at l = length l.s - l.at

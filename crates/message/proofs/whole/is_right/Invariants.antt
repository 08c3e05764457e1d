-- `message::whole::is_right` meets its contract: the records passed are counted, and what is left of the text decides.
-- Assumes nothing.
use Rattle.std.proofs.Common.{◌≡◌, ℕ, ◌-◌, ◌≤◌, List, length, drop}
use Rattle.sequence.specs.Numbers.{started}
use Rattle.message.specs.Inner.Rest.{right_rest, counts_of, Tally}
use Rattle.kinds.specs.declared.Delimiters.{Delimiters}
use Rattle.kinds.specs.declared.Kind.{Kind}
use Rattle.message.proofs.whole.is_right.Given as goal

-- the walk stands at `at`: the records passed are counted, and what is left decides
pub record Standing (d : Delimiters) (rest : List ℕ) (other : Kind) (counts : List ℕ) (at : ℕ) : Type 0 where
  pub within : at ≤ length rest
  pub tally : Tally other counts
  pub decides : right_rest d (counts_of other counts) (drop at rest) ≡ right_rest d started rest

abbrev pub invariant-loop-at : goal.invariant-loop-at
invariant-loop-at l = Standing l.d l.rest l.other l.counts l.at

abbrev pub decreases-loop-at : goal.decreases-loop-at
decreases-loop-at l = length l.rest - l.at

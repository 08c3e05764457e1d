-- `cutting::measuring::measure` meets its contract: what is measured and what is left are the length of all frames.
-- Assumes nothing.
use mathlib.Core.Path.{◌≡◌}
use mathlib.Core.List.{List}
use Prim.Native.Nat.{ℕ, ◌+◌, ◌-◌, ◌*◌, ◌≤◌}
use lib.ListN.{length, drop}
use Rattle.frame.specs.Shape.{around_text}
use Rattle.pieces.specs.Pieces.{pieces_of}
use Rattle.cutting.proofs.measuring.measure.Given as goal

-- before a turn: what is measured and what is left are the length of all frames
pub record Measuring (limit : ℕ) (text : List ℕ) (at total : ℕ) : Type 0 where
  pub at_within : at ≤ length text
  pub counted : total + (length text - at) + around_text * length (pieces_of limit (drop at text)) ≡ length text + around_text * length (pieces_of limit text)
  pub small : total ≤ 8 * at

abbrev pub invariant-loop-at : goal.invariant-loop-at
invariant-loop-at l = Measuring l.limit l.text l.at l.total

abbrev pub decreases-loop-at : goal.decreases-loop-at
decreases-loop-at l = length l.text - l.at

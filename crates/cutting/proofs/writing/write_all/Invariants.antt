-- `cutting::writing::write_all` meets its contract: what is written and what is left to write are all frames.
-- Assumes nothing.
use mathlib.Core.Path.{◌≡◌}
use mathlib.Core.List.{List}
use Prim.Native.Nat.{ℕ, ◌+◌, ◌-◌, ◌≤◌}
use lib.ListN.{length}
use Rattle.memory.specs.Parts.{splice}
use Rattle.digits.specs.Number.{most_number}
use Rattle.cutting.specs.Frames.{cut_of}
use Rattle.cutting.proofs.Written.{left}
use Rattle.cutting.proofs.writing.write_all.Given as goal

-- before a turn: what is written and what is left to write are all frames
pub record Writing (limit : ℕ) (text out₀ out : List ℕ) (at done number : ℕ) : Type 0 where
  pub at_within : at ≤ length text
  pub numbered : number ≤ most_number
  pub out_length : length out ≡ length out₀
  pub all_written : splice out done (left limit text at number) ≡ splice out₀ 0 (cut_of limit text)
  pub counted : done + length (left limit text at number) ≡ length (cut_of limit text)

abbrev pub invariant-loop-at : goal.invariant-loop-at
invariant-loop-at l = Writing l.limit l.text l.initial.out l.out l.at l.done l.number

abbrev pub decreases-loop-at : goal.decreases-loop-at
decreases-loop-at l = length l.text - l.at

-- The measures of the cycle of calls {read_owner, read_run}, and its loop's invariant. What falls is the number of records from n on: twice that
-- for an owner, and one more for a run.
-- Assumes nothing.
use Prim.Native.Nat.{ℕ, ◌+◌, ◌-◌, ◌*◌, ◌<◌, ◌≤◌}
use mathlib.Core.Path.{◌≡◌}
use mathlib.Core.List.{List}
use lib.ListN.{length}
use Rattle.owner.specs.Inner.Nearest.{depth_at, Ready, Ran}
use Rattle.owner.proofs.runs.+read_owner_read_run.Given as goal

abbrev pub decreases-read_owner : goal.decreases-read_owner
decreases-read_owner l = 2 * (length l.types.now - l.n)

abbrev pub decreases-read_run : goal.decreases-read_run
decreases-read_run l = 2 * (length l.types.now - l.n) + 1

-- before a turn: what is left of the run, from `at` on, makes the run whole
pub record Going (types owners₀ owners : List ℕ) (n over owner at d : ℕ) : Type 0 where
  pub from : n ≤ at
  pub within : at ≤ length types
  pub owners_length : length owners ≡ length owners₀
  pub deep : at < length types → d ≡ depth_at types at
  pub behind_all : length types ≤ at → d ≡ 0
  pub ready : Ready types over at owner
  pub makes_whole : (os : List ℕ) (m : ℕ) → Ran types owners os over at at m → Ran types owners₀ os over n n m

abbrev pub invariant-read_run-loop-d : goal.invariant-read_run-loop-d
invariant-read_run-loop-d l = Going l.types l.initial.owners l.owners l.n l.over l.owner l.at l.d

abbrev pub decreases-read_run-loop-d : goal.decreases-read_run-loop-d
decreases-read_run-loop-d l = length l.types - l.at

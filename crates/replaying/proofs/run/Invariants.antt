-- `replaying::run` meets its contract.
-- Assumes nothing.
use Rattle.std.proofs.Common.{◌≡◌, ℕ, ◌-◌, ◌≤◌, List, length}
use Rattle.replaying.specs.declared.Lent.{Lent}
use Rattle.replaying.specs.Lents.{desk, SameReferences, SameLengths}
use Rattle.replaying.specs.Runs.{AfterRun, run_of, piece_of}
use Rattle.replaying.proofs.run.Given as goal

-- before a turn: what is still to run comes to what the whole piece comes to, and what is lent is still the same memory, of the same length
pub record Going (whole rest : AfterRun) (input : List ℕ) (at : ℕ) (out₀ out : List ℕ) (put : ℕ) (l₀ l : Lent) : Type 0 where
  pub comes_to : whole ≡ rest
  pub out_length : length out ≡ length out₀
  pub same_references : SameReferences l₀ l
  pub same_lengths : SameLengths l₀ l
  pub read_within : at ≤ length input
  pub written_within : put ≤ length out

abbrev pub invariant-loop : goal.invariant-loop
invariant-loop l = let d₀ = desk l.initial.lent in
    let d = desk l.lent in
    Going (piece_of l.events l.input l.initial.out d₀) (run_of (length l.input - l.counter) l.input l.count l.at l.put l.out d) l.input l.at l.initial.out l.out l.put l.initial.lent l.lent

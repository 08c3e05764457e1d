-- What a host keeps, and what a call says of it.
-- Assumes nothing.
use Rattle.std.specs.Prelude.{ℕ, ◌≡◌, List}
use Rattle.answers.specs.InNumbers.{in_numbers}
use Rattle.answers.specs.declared.Answer.{Answer}
use Rattle.answers.specs.declared.Answered.{Answered}
use Rattle.receiving.specs.Steps.{Memory}

-- all that a host keeps between its calls, and lends to each event
pub record HostState : Type 0 where
  pub numbers : List ℕ
  pub counts : List ℕ
  pub memory : Memory

-- the answer to an event, and what the host keeps then
pub record AfterCall : Type 0 where
  pub answered : Answered
  pub state : HostState

-- nothing changed [L1]
abbrev pub refused : Answer → HostState → AfterCall
refused a s = record { answered = in_numbers a; state = s }

-- what an event says: its answer, and every number and byte that the host keeps then [P1]
pub record Called (c : AfterCall) (r : Answered) (t : HostState) : Type 0 where
  pub result : r ≡ c.answered
  pub state : t ≡ c.state

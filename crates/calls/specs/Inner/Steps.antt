-- The parts of an event past 40 to 42: the step of its line, the deciding of a message, and an outcome put back into the numbers.
-- Assumes nothing.
use Rattle.std.specs.Prelude.{ℕ, ◌≡◌, List}
use Rattle.room.specs.Room.{todays_shares}
use Rattle.line.specs.declared.Line.{Line}
use Rattle.looking.specs.declared.Event.{Event}
use Rattle.receiving.specs.Steps.{step_of}
use Rattle.completing.specs.Deciding.{decide_of}
use Rattle.receiving.specs.declared.Stepped.{Stepped}
use Rattle.ledger.specs.Ledgers.{ledger_of, with_serial, with_used}
use Rattle.answers.specs.InNumbers.{in_numbers}
use Rattle.numbers.specs.Plain.{with_line}
use Rattle.answers.specs.declared.Answered.{Answered}
use Rattle.calls.specs.Calls.{HostState, put_back, Called}

-- the step alone, past 40 to 42, of a line with this record
abbrev pub Stepping : HostState → Line → Event → Answered → HostState → Type 0
Stepping s l e r t = Called (put_back s e.line (step_of todays_shares l (ledger_of s.numbers s.counts) e s.memory)) r t

-- the deciding of a message that n bytes of its frame complete
abbrev pub Deciding : HostState → Line → Event → ℕ → Answered → HostState → Type 0
Deciding s l e n r t = Called (put_back s e.line (decide_of todays_shares l (ledger_of s.numbers s.counts) e n s.memory)) r t

-- the outcome of a decision in the numbers
pub record PutBack (ns us : List ℕ) (i : ℕ) (s : Stepped) (r : Answered) (ns' us' : List ℕ) : Type 0 where
  pub result : r ≡ in_numbers s.answer
  pub numbers : ns' ≡ with_serial (with_line ns i s.line) i s.ledger
  pub counts : us' ≡ with_used us i s.ledger

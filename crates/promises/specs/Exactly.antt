-- What an event that completes a text is answered, exactly: each answer is given in its own case and in no other.
-- Assumes nothing.
use Rattle.faults.specs.declared.Flaw.TheVariants.{Faulty, NotText}
use Rattle.std.specs.Prelude.{ℕ, ◌≡◌, true, false, List, length, Err}
use Rattle.faults.specs.Message.{is_message}
use Rattle.faults.specs.Faults.{fault_of}
use Rattle.answers.specs.Paper.{fault_number, number_of, place_of}
use Rattle.answers.specs.declared.Answer.{Answer}
use Rattle.answers.specs.declared.Fault.{Fault}
use Rattle.looking.specs.declared.Kind.{Kind}
use Rattle.promises.specs.Machine.{State, came, step}
use Rattle.promises.specs.Runs.{has_space}

-- the one where the other is, and only there
abbrev pub Exactly : Type 0 → Type 0 → Type 0
Exactly A B = (A → B) × (B → A)

-- the number that the event k on line i is answered, and the place that comes with it
abbrev pub answer_to : State → ℕ → Kind → Answer
answer_to s i k = (step s (came i k)).0.answer

abbrev pub number_to : State → ℕ → Kind → ℕ
number_to s i k = number_of (answer_to s i k)

abbrev pub place_to : State → ℕ → Kind → ℕ
place_to s i k = place_of (answer_to s i k)

-- the text is stored (4) exactly if it is a message and there is room for it, and crowded out (31) exactly if it is one and there is none;
-- it is answered a fault's number and a place exactly if that is what is wrong with it first, and there; and 30 exactly if it is too long or
-- has a byte that is not allowed [P6]
pub record DecidedExactly (s : State) (i : ℕ) (k : Kind) (text : List ℕ) : Type 0 where
  pub stored : Exactly (number_to s i k ≡ 4) ((is_message text ≡ true) × (has_space s i (length text) ≡ true))
  pub crowded : Exactly (number_to s i k ≡ 31) ((is_message text ≡ true) × (has_space s i (length text) ≡ false))
  pub faulty : (f : Fault) (place : ℕ) → Exactly ((number_to s i k ≡ fault_number f) × (place_to s i k ≡ place)) (fault_of text ≡ Err (Faulty f place))
  pub foreign : Exactly (number_to s i k ≡ 30) (fault_of text ≡ Err NotText)

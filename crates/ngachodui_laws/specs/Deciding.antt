-- What an event that completes a text is answered, exactly: each answer comes in its own case and in no other.
-- Assumes nothing.
use Rattle.faults.specs.declared.Flaw.TheVariants.{Faulty, NotText}
use Rattle.std.specs.Prelude.{ℕ, ◌≡◌, true, false, List, length, Err}
use Rattle.faults.specs.Message.{is_message}
use Rattle.faults.specs.Faults.{fault_of}
use Rattle.answers.specs.Paper.{fault_number}
use Rattle.answers.specs.declared.Fault.{Fault}
use Rattle.looking.specs.declared.Kind.{Kind}
use Rattle.promises.specs.Machine.{came}
use Rattle.promises.specs.Runs.{has_space}
use Rattle.promises.specs.Exactly.{Exactly}
use Rattle.calls.specs.Calls.{HostState}
use Rattle.ngachodui_laws.specs.HostRuns.{gateway_state, number_to, place_to}

-- 4: a message with room for it; 31: a message without; a fault's number with a place: that fault is the first thing wrong, and there; 30: a
-- byte that is not allowed
pub record DecidedExactly (s : HostState) (i : ℕ) (k : Kind) (text : List ℕ) : Type 0 where
  pub stored : Exactly (number_to s (came i k) ≡ 4) ((is_message text ≡ true) × (has_space (gateway_state s) i (length text) ≡ true))
  pub crowded : Exactly (number_to s (came i k) ≡ 31) ((is_message text ≡ true) × (has_space (gateway_state s) i (length text) ≡ false))
  pub faulty : (f : Fault) (place : ℕ) → Exactly ((number_to s (came i k) ≡ fault_number f) × (place_to s (came i k) ≡ place)) (fault_of text ≡ Err (Faulty f place))
  pub foreign : Exactly (number_to s (came i k) ≡ 30) (fault_of text ≡ Err NotText)

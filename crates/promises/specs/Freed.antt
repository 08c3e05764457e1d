-- Room that a taking frees, and one line alone, over runs.
-- Assumes nothing.
use Rattle.std.specs.Prelude.{ℕ, ◌<◌, ◌≡◌, ◌≢◌, List, []}
use Rattle.memory.specs.Sizes.{lines}
use Rattle.answers.specs.declared.Answer.TheVariants.{Taken}
use Rattle.serial.specs.Serial.{taking, final}
use Rattle.promises.specs.Machine.{State, GatewayItem, step}
use Rattle.promises.specs.Queue.{all_stored}

-- a taking from line l and then the items fs
abbrev pub taken_then : State → ℕ → List ℕ → List GatewayItem → State
taken_then s l b fs = final step (step s (taking l b)).1 fs

-- the taking gives a text of n bytes (8), and none of the items behind it stores a message [J8]
pub record Frees (s : State) (l : ℕ) (b : List ℕ) (n : ℕ) (fs : List GatewayItem) : Type 0 where
  pub serial : ℕ
  pub gives : (step s (taking l b)).0.answer ≡ Taken n serial
  pub nothing : (k : ℕ) → k < lines → all_stored k (step s (taking l b)).1 fs ≡ []

-- a run stores messages on line i alone
abbrev pub Alone : State → List GatewayItem → ℕ → Type 0
Alone s es i = (k : ℕ) → k < lines → k ≢ i → all_stored k s es ≡ []

-- Room that a taking frees, and one line alone, in a host's runs.
-- Assumes nothing.
use Rattle.std.specs.Prelude.{ℕ, ◌<◌, ◌≡◌, ◌≢◌, List, []}
use Rattle.memory.specs.Sizes.{lines}
use Rattle.serial.specs.Serial.{taking, final}
use Rattle.promises.specs.Machine.{GatewayItem}
use Rattle.calls.specs.Calls.{HostState}
use Rattle.ngachodui_laws.specs.HostRuns.{host_step, begin_of, number_to, after, Run}
use Rattle.ngachodui_laws.specs.Queue.{all_stored}

-- a taking from line l and then the calls fs
abbrev pub taken_then : HostState → ℕ → List ℕ → List GatewayItem → HostState
taken_then s l b fs = final host_step (after s (taking l b)) fs

-- the taking gives a text of n bytes, and none of the calls behind it stores a message
pub record Frees (s : HostState) (l : ℕ) (b : List ℕ) (n : ℕ) (fs : List GatewayItem) : Type 0 where
  pub gives : number_to s (taking l b) ≡ 8
  pub bytes : (host_step s (taking l b)).0.answered.length ≡ n
  pub nothing : (k : ℕ) → k < lines → all_stored k (after s (taking l b)) fs ≡ []

-- the run stores messages on line i alone
abbrev pub Alone : Run → ℕ → Type 0
Alone r i = (k : ℕ) → k < lines → k ≢ i → all_stored k (begin_of r) r.calls ≡ []

-- What goes in and comes out on one line in a run of calls, as a host sees it: nothing is lost, nothing comes twice, and only messages come.
-- Assumes nothing.
use Rattle.std.specs.Prelude.{ℕ, ◌<◌, ◌≡◌, true, cond, ◌&&◌, List, [], ◌∷◌, ◌++◌, eqb, take, Some}
use Rattle.memory.specs.Sizes.{lines}
use Rattle.faults.specs.Message.{is_message}
use Rattle.header.specs.Entry.{Entry}
use Rattle.journal.specs.Chain.{chain}
use Rattle.journal_laws.specs.Runs.{Numbered, numbered, waiting}
use Rattle.serial.specs.Serial.{event, taking, Every}
use Rattle.promises.specs.Machine.{GatewayItem, happens, starts, came}
use Rattle.promises.specs.Queue.{completed}
use Rattle.ledger.specs.Ledgers.{ledger_of}
use Rattle.calls.specs.Calls.{HostState}
use Rattle.ngachodui_laws.specs.HostRuns.{gateway_state, begin_of, HostResponse, number_to, after, Run, history_of, end_of}
use Rattle.ngachodui_laws.specs.Sound.{Holds}

-- the text that a taking gave: with 8, so many bytes at the buffer's start, under the serial that was answered
abbrev pub given : HostResponse → List Numbered
given r = cond (eqb r.answered.number 8) (record { serial = r.answered.serial; text = take r.answered.length r.buffer } ∷ []) []

abbrev pub taken_in : ℕ → GatewayItem → HostResponse → List Numbered
taken_in l (event i k) r = []
taken_in l (taking i b) r = cond (eqb i l) (given r) []

-- all that was taken from line l, read off a history
abbrev pub all_taken : ℕ → List (GatewayItem × HostResponse) → List Numbered
all_taken l [] = []
all_taken l (x ∷ xs) = taken_in l x.0 x.1 ++ all_taken l xs

-- the text that a call stores on line l: the one that its event completes there, with 4
abbrev pub stored_by : ℕ → HostState → GatewayItem → List (List ℕ)
stored_by l s (event i (happens k)) = cond (eqb i l && eqb (number_to s (came i k)) 4) (completed (gateway_state s) i k ∷ []) []
stored_by l s (event i (starts text)) = []
stored_by l s (taking i b) = []

-- all that calls store on line l, from this state on
abbrev pub all_stored : ℕ → HostState → List GatewayItem → List (List ℕ)
all_stored l s [] = []
all_stored l s (e ∷ es) = stored_by l s e ++ all_stored l (after s e) es

-- on each line, what was stored, with serials from 0, is what was taken, in order and byte for byte, and then what waits in the journal
pub record NothingLost (r : Run) : Type 0 where
  pub entries : List Entry
  pub holds : Holds (end_of r) entries
  pub queue : (l : ℕ) → l < lines → numbered 0 (all_stored l (begin_of r) r.calls) ≡ all_taken l (history_of r) ++ waiting l entries

-- every text that waits is a message, and every text that was taken is one
pub record OnlyMessages (r : Run) : Type 0 where
  pub entries : List Entry
  pub whole : chain (ledger_of (end_of r).numbers (end_of r).counts) (end_of r).memory.journal ≡ Some entries
  pub waits : Every (λ (e : Entry). is_message e.text ≡ true) entries
  pub taken : (l : ℕ) → l < lines → Every (λ (n : Numbered). is_message n.text ≡ true) (all_taken l (history_of r))

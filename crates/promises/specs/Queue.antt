-- What goes in and comes out on one line of the gateway in a run, read off its answers and buffers.
-- Assumes nothing.
use Rattle.std.specs.Prelude.{ℕ, ◌<◌, ◌≡◌, cond, ◌&&◌, List, [], ◌∷◌, ◌++◌, eqb, get_or, take, None, Option, Some}
use Rattle.memory.specs.Sizes.{lines}
use Rattle.header.specs.Entry.{Entry}
use Rattle.room.specs.Room.{todays_shares}
use Rattle.journal_laws.specs.Held.{Held}
use Rattle.journal_laws.specs.Runs.{Numbered, numbered, waiting}
use Rattle.answers.specs.Paper.{values_of}
use Rattle.looking.specs.declared.Kind.{Kind}
use Rattle.serial.specs.Serial.{event, taking, final}
use Rattle.promises.specs.Machine.{State, Response, GatewayItem, happens, starts, came, step}
use Rattle.promises.specs.Runs.{Beginning, fresh, answered, offered}

-- the message that an event completes on its line; no bytes where it completes none
abbrev pub completed_in : Option (List ℕ) → List ℕ
completed_in None = []
completed_in (Some text) = text

abbrev pub completed : State → ℕ → Kind → List ℕ
completed s i k = completed_in (offered s i k)

-- what a taking gave: with 8, whose values are the text's length in the buffer, and its serial
abbrev pub gave : Response → List Numbered
gave t = cond (eqb (answered t) 8) (record { serial = get_or (values_of t.answer) 1 0; text = take (get_or (values_of t.answer) 0 0) t.buffer } ∷ []) []

-- the message that an item stores on line l: one that is answered 4
abbrev pub stored_on : ℕ → State → GatewayItem → List (List ℕ)
stored_on l s (event i (happens k)) = cond (eqb i l && eqb (answered (step s (came i k)).0) 4) (completed s i k ∷ []) []
stored_on l s (event i (starts text)) = []
stored_on l s (taking i b) = []

-- what an item takes from line l
abbrev pub taken_on : ℕ → State → GatewayItem → List Numbered
taken_on l s (event i k) = []
taken_on l s (taking i b) = cond (eqb i l) (gave (step s (taking i b)).0) []

-- in a whole run
abbrev pub all_stored : ℕ → State → List GatewayItem → List (List ℕ)
all_stored l s [] = []
all_stored l s (e ∷ es) = stored_on l s e ++ all_stored l (step s e).1 es

abbrev pub all_taken : ℕ → State → List GatewayItem → List Numbered
all_taken l s [] = []
all_taken l s (e ∷ es) = taken_on l s e ++ all_taken l (step s e).1 es

-- what was stored on a line is what was taken from it, in order and byte for byte, and then what waits in the journal [P2]
pub record NothingLost (b : Beginning) (es : List GatewayItem) : Type 0 where
  pub entries : List Entry
  pub held : Held todays_shares (final step (fresh b) es).gateway.ledger (final step (fresh b) es).memory.journal entries
  pub queue : (l : ℕ) → l < lines → numbered 0 (all_stored l (fresh b) es) ≡ all_taken l (fresh b) es ++ waiting l entries

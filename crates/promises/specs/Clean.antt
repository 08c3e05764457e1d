-- Unfinished texts are of allowed bytes; and what holds of a text that an event completes, and of one that is no message.
-- Assumes nothing.
use Rattle.faults.specs.declared.Flaw.TheVariants.{Faulty}
use Rattle.std.specs.Prelude.{ℕ, ◌<◌, ◌≤◌, ◌≡◌, ◌≢◌, true, List, length, Err}
use Rattle.memory.specs.Sizes.{lines, message_limit}
use Rattle.memory.specs.Tests.{all}
use Rattle.characters.specs.Allowed.{allowed}
use Rattle.records.specs.Records.{records, ends_with_cr}
use Rattle.faults.specs.Faults.{fault_of}
use Rattle.answers.specs.declared.Fault.{Fault}
use Rattle.answers.specs.declared.Fault.TheVariants.{NoFinalCr}
use Rattle.looking.specs.Views.{unfinished_text}
use Rattle.promises.specs.Machine.{State, Parts, parts_of}

-- the unfinished text of a line, in what the line has
abbrev pub unfinished_in : Parts → List ℕ
unfinished_in p = unfinished_text p.line p.texts

-- every line's is of allowed bytes: so it is in every state of a run [P9]
abbrev pub Clean : State → Type 0
Clean s = (i : ℕ) → i < lines → all allowed (unfinished_in (parts_of s i)) ≡ true

-- a text that an event completes, in whatever state: it is not empty, within the limit, and ends with CR
pub record CompleteText (text : List ℕ) : Type 0 where
  pub some : 0 < length text
  pub short : length text ≤ message_limit
  pub ended : ends_with_cr text ≡ true

-- a text that is wrong at one of its records, at this place counted from 1, and not at its last byte (54) [P9]
pub record WrongAt (text : List ℕ) : Type 0 where
  pub kind : Fault
  pub place : ℕ
  pub found : fault_of text ≡ Err (Faulty kind place)
  pub not_54 : kind ≢ NoFinalCr
  pub from_1 : 1 ≤ place
  pub within : place ≤ length (records text)

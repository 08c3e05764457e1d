-- A complete text is decided, by the records and then by the journal: 30 or a fault, 43, 31, 4. Only one that is stored changes the ledger and the journal.
-- Assumes nothing.
use Rattle.journal.specs.declared.Refusal.{Refusal}
use Rattle.faults.specs.declared.Flaw.{Flaw}
use Rattle.std.specs.Prelude.{ℕ, ◌≡◌, List, length, Err, Ok, Result}
use Rattle.memory.specs.Tests.{unless}
use Rattle.room.specs.Room.{todays_shares}
use Rattle.faults.specs.Message.{is_message}
use Rattle.faults.specs.Faults.{fault_of}
use Rattle.journal.specs.Verdicts.{judge_of}
use Rattle.journal.specs.Storage.{grown, appended}
use Rattle.journal.specs.declared.Ledger.{Ledger}
use Rattle.answers.specs.declared.Answer.{Answer}
use Rattle.answers.specs.declared.Answer.TheVariants.{Stored as IsStored, NoMessage, NoRoom, NoLine, WrongSize, Broken, Faulty}
use Rattle.deciding.specs.declared.Outcome.{Outcome}
use Rattle.deciding.specs.declared.Fate.{Fate}
use Rattle.deciding.specs.declared.Fate.TheVariants.{Store, Object, Leave}
use Rattle.deciding.specs.declared.Decided.{Decided}

abbrev pub outcome_with : Fate → Answer → Outcome
outcome_with fate answer = record { fate = fate; answer = answer }

-- the text is stored; it is decided against; or everything is left as it was
abbrev pub Stored : Outcome
Stored = outcome_with Store IsStored

abbrev pub Against : Answer → Outcome
Against a = outcome_with Object a

abbrev pub Left : Answer → Outcome
Left a = outcome_with Leave a

-- what the journal says of a message: 43, 31, or it is stored. That it has no line, no right size or no text is never asked here. [A31, A43]
abbrev pub room_outcome : Result (Unit {0}) Refusal → Outcome
room_outcome (Ok tt) = Stored
room_outcome (Err Refusal.NoRoom) = Against NoRoom
room_outcome (Err Refusal.Broken) = Left Broken
room_outcome (Err Refusal.NoLine) = Left NoLine
room_outcome (Err Refusal.WrongSize) = Left WrongSize
room_outcome (Err Refusal.Malformed) = Against NoMessage

-- what is wrong with a text, as the line is answered: its first fault, and 30 for a byte that is not allowed, which no frame brings; a message is not asked [A30, R22]
abbrev pub objection : Result (Unit {0}) Flaw → Answer
objection (Ok tt) = NoMessage
objection (Err Flaw.NotText) = NoMessage
objection (Err (Flaw.Faulty f place)) = Faulty f place

-- why a complete text is no message [R11]
unfoldable pub objection_to : List ℕ → Answer
objection_to text = objection (fault_of text)

-- a complete text: the records, then the journal [A4, O4]
unfoldable pub outcome_of : List ℕ → Ledger → ℕ → List ℕ → List ℕ → Outcome
outcome_of shares d i text journal = unless (is_message text) (Against (objection_to text)) (room_outcome (judge_of d shares i (length text) journal))

-- the ledger
abbrev pub ledger_by : Fate → Ledger → ℕ → List ℕ → Ledger
ledger_by Store d i text = grown d i (length text)
ledger_by Object d i text = d
ledger_by Leave d i text = d

-- the journal
abbrev pub journal_by : Fate → Ledger → ℕ → List ℕ → List ℕ → List ℕ
journal_by Store d i text journal = appended d i text journal
journal_by Object d i text journal = journal
journal_by Leave d i text journal = journal

-- what deciding a text says, with the outcome o
pub record DecidedBy (o : Outcome) (d : Ledger) (i : ℕ) (text j : List ℕ) (r : Decided) (j' : List ℕ) : Type 0 where
  pub outcome : r.outcome ≡ o
  pub ledger : r.ledger ≡ ledger_by o.fate d i text
  pub journal : j' ≡ journal_by o.fate d i text j

abbrev pub Decision : Ledger → ℕ → List ℕ → List ℕ → Decided → List ℕ → Type 0
Decision d i text j r j' = DecidedBy (outcome_of todays_shares d i text j) d i text j r j'

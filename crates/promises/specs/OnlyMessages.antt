-- Only messages are kept and given: after a run from fresh every text that waits is one, and every text that was taken is one.
-- So whoever takes a text can read it.
-- Assumes nothing.
use Rattle.faults.specs.declared.Refusal.TheVariants.{Faulty, Malformed}
use Rattle.std.specs.Prelude.{ℕ, ◌<◌, ◌≡◌, ◌≢◌, true, List, length, Err, Ok, Some}
use Rattle.memory.specs.Sizes.{lines}
use Rattle.records.specs.Records.{records}
use Rattle.faults.specs.Message.{is_message}
use Rattle.owner.specs.Reading.{room_for, reading_of}
use Rattle.answers.specs.declared.Fault.{Fault}
use Rattle.header.specs.Entry.{Entry}
use Rattle.journal.specs.Chain.{chain}
use Rattle.journal_laws.specs.Runs.{Numbered}
use Rattle.serial.specs.Serial.{final, Every}
use Rattle.promises.specs.Machine.{GatewayItem, step}
use Rattle.promises.specs.Runs.{Beginning, fresh}
use Rattle.promises.specs.Queue.{all_taken}

abbrev pub IsMessage : List ℕ → Type 0
IsMessage text = is_message text ≡ true

-- the run es, from this beginning [P7]
pub record OnlyMessages (b : Beginning) (es : List GatewayItem) : Type 0 where
  pub entries : List Entry
  pub whole : chain (final step (fresh b) es).gateway.ledger (final step (fresh b) es).memory.journal ≡ Some entries
  pub waiting : Every (λ (e : Entry). IsMessage e.text) entries
  pub taken : (l : ℕ) → l < lines → Every (λ (n : Numbered). IsMessage n.text) (all_taken l (fresh b) es)

-- reading it is never answered 46 or a fault, and where each of the four memories has a place for every record, it is read
pub record Readable (text : List ℕ) : Type 0 where
  pub never_46 : (types offsets lengths owners : ℕ) → reading_of text types offsets lengths owners ≢ Err Malformed
  pub never_faulty : (f : Fault) (place types offsets lengths owners : ℕ) → reading_of text types offsets lengths owners ≢ Err (Faulty f place)
  pub read : (types offsets lengths owners : ℕ) → room_for (length (records text)) types offsets lengths owners ≡ true
      → reading_of text types offsets lengths owners ≡ Ok (length (records text))

-- What a host lends to an event on a strip reader's line, and what the event's parts make of it.
-- Assumes nothing.
use Rattle.std.specs.Prelude.{ℕ, ◌≡◌, List, length}
use Rattle.room.specs.Room.{todays_shares}
use Rattle.settings.specs.declared.Patient.{Patient}
use Rattle.answers.specs.declared.Answered.{Answered}
use Rattle.line.specs.declared.Line.{Line}
use Rattle.looking.specs.Views.{frames_of}
use Rattle.looking.specs.declared.Kind.{Kind}
use Rattle.journal.specs.Verdicts.{judge_of}
use Rattle.journal.specs.declared.Ledger.{Ledger}
use Rattle.ledger.specs.Ledgers.{ledger_of}
use Rattle.keeping.specs.Keeping.{memo_of, reader_of}
use Rattle.finding.specs.Findings.{finding_of}
use Rattle.uploads.specs.Uploads.{Ruling, block_bytes, judged_block, ruling_of, filing}
use Rattle.uploads.specs.Inner.Ruled.{Reading, Ruled}
use Rattle.uploads.specs.declared.Lent.{Lent}

-- what holds past 40 to 42
abbrev pub Reads : Lent → Patient → Line → ℕ → Type 0
Reads t p l i = Reading t.numbers.now t.frames.now p l i

abbrev pub own_ledger : Lent → Ledger
own_ledger t = ledger_of t.numbers.now t.counts.now

-- the block that a byte makes
abbrev pub own_block : Lent → Line → ℕ → ℕ → List ℕ
own_block t l i b = block_bytes l b (frames_of i t.frames.now)

-- the ruling on an event, on a whole block, and on one whose finding is to be stored
abbrev pub event_ruling : Lent → Patient → Line → ℕ → Kind → Ruling
event_ruling t p l i k = ruling_of todays_shares p l (memo_of t.numbers.now i) (own_ledger t) i k t.journal.now (frames_of i t.frames.now)

abbrev pub block_ruling : Lent → Patient → Line → ℕ → List ℕ → Ruling
block_ruling t p l i bs = judged_block todays_shares p l (memo_of t.numbers.now i) (own_ledger t) i bs t.journal.now

abbrev pub filing_ruling : Lent → Patient → ℕ → List ℕ → Ruling
filing_ruling t p i bs = filing (judge_of (own_ledger t) todays_shares i (length (finding_of p bs)) t.journal.now) (reader_of t.numbers.now i)

-- what a ruling leaves
abbrev pub Leaves : Lent → Patient → Line → ℕ → Kind → Ruling → Answered → Lent → Type 0
Leaves t p l i k x r t' = Ruled t.numbers.now t.counts.now t.journal.now t.frames.now p l i k x r t'.numbers.now t'.counts.now t'.journal.now t'.frames.now

-- each field still holds the reference that it held
pub record SameReferences (t t' : Lent) : Type 0 where
  pub numbers : t'.numbers.ghost_name ≡ t.numbers.ghost_name
  pub counts : t'.counts.ghost_name ≡ t.counts.ghost_name
  pub journal : t'.journal.ghost_name ≡ t.journal.ghost_name
  pub frames : t'.frames.ghost_name ≡ t.frames.ghost_name

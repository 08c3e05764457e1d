-- The parts of an event past 40 to 42, on a line that speaks blocks.
-- Assumes nothing.
use Rattle.std.specs.Prelude.{ℕ, ◌<◌, ◌≡◌, true, List, length}
use Rattle.memory.specs.Sizes.{lines, frames_size}
use Rattle.settings.specs.Settings.{block_limit}
use Rattle.settings.specs.declared.Patient.{Patient}
use Rattle.settings.specs.declared.Dialogue.TheVariants.{Blocks}
use Rattle.answers.specs.InNumbers.{in_numbers}
use Rattle.answers.specs.declared.Answered.{Answered}
use Rattle.line.specs.declared.Line.{Line}
use Rattle.looking.specs.Views.{frames_of}
use Rattle.looking.specs.declared.Kind.{Kind}
use Rattle.looking.specs.declared.Kind.TheVariants.{Byte}
use Rattle.receiving.specs.Settled.{with_byte}
use Rattle.journal.specs.declared.Ledger.{Ledger}
use Rattle.strips.specs.Hearings.{filed_reader}
use Rattle.strips.specs.declared.Reader.{Reader}
use Rattle.ledger.specs.Ledgers.{ledger_of, with_serial, with_used}
use Rattle.numbers.specs.Plain.{within_numbers, line_of, with_line}
use Rattle.keeping.specs.Keeping.{memo_of, with_reader, with_block, with_memo}
use Rattle.finding.specs.Findings.{finding_of}
use Rattle.uploads.specs.Uploads.{Deed, leave, add, settle, file, Ruling, added_line, judged_line, line_by, memo_by, ledger_by, journal_by, frames_by, block_of}

-- what holds past 40 to 42: line i's numbers stand for the record l, which is within its limits and speaks blocks
pub record Reading (ns f : List ℕ) (p : Patient) (l : Line) (i : ℕ) : Type 0 where
  pub there : i < lines
  pub size : length f ≡ frames_size
  pub within : within_numbers ns i ≡ true
  pub line : l ≡ line_of ns i
  pub speaks : l.settings.dialogue ≡ Blocks p

-- a place for one byte more behind those collected
pub record Room (l : Line) (i : ℕ) (f : List ℕ) : Type 0 where
  pub there : i < lines
  pub few : l.collected < block_limit
  pub size : length f ≡ frames_size

-- the finding of the block that an event ends
abbrev pub text_by : Patient → Kind → Line → ℕ → List ℕ → List ℕ
text_by p k l i f = finding_of p (block_of k l (frames_of i f))

-- the byte that has come, behind those collected
abbrev pub byte_added : Line → ℕ → ℕ → List ℕ → List ℕ
byte_added l i b f = with_byte (Byte b) l i f

-- the numbers with a line whose block was judged, and this is kept of its reader; and where its finding was stored
abbrev pub settled_numbers : List ℕ → ℕ → Line → Reader → List ℕ
settled_numbers ns i l r = with_reader (with_line ns i (judged_line l)) i r

abbrev pub filed_numbers : List ℕ → ℕ → Line → Ledger → List ℕ → List ℕ
filed_numbers ns i l d bs = with_block (with_reader (with_serial (with_line ns i (judged_line l)) i d) i filed_reader) i bs

-- what a deed makes of the numbers and the counts, where the ledger is d after it
abbrev pub numbers_by : Deed → List ℕ → ℕ → Line → Ledger → List ℕ → List ℕ
numbers_by leave ns i l d bs = ns
numbers_by add ns i l d bs = with_line ns i (added_line l)
numbers_by (settle r) ns i l d bs = settled_numbers ns i l r
numbers_by file ns i l d bs = filed_numbers ns i l d bs

abbrev pub counts_by : Deed → List ℕ → ℕ → Ledger → List ℕ
counts_by leave us i d = us
counts_by add us i d = us
counts_by (settle r) us i d = us
counts_by file us i d = with_used us i d

-- what is done for a ruling, but for the journal
pub record Acted (ns us f : List ℕ) (l : Line) (i b : ℕ) (bs : List ℕ) (d : Ledger) (x : Ruling) (r : Answered) (ns' us' f' : List ℕ) : Type 0 where
  pub result : r ≡ in_numbers x.answer
  pub numbers : ns' ≡ numbers_by x.deed ns i l d bs
  pub counts : us' ≡ counts_by x.deed us i d
  pub frames : f' ≡ frames_by x.deed (Byte b) l i f

-- what a ruling leaves: numbers, counts, journal and frames
pub record Ruled (ns us j f : List ℕ) (p : Patient) (l : Line) (i : ℕ) (k : Kind) (x : Ruling) (r : Answered) (ns' us' j' f' : List ℕ) : Type 0 where
  pub result : r ≡ in_numbers x.answer
  pub numbers : ns' ≡ with_memo (with_serial (with_line ns i (line_by x.deed l)) i (ledger_by x.deed (ledger_of ns us) i (text_by p k l i f))) i (memo_by x.deed (memo_of ns i) (block_of k l (frames_of i f)))
  pub counts : us' ≡ with_used us i (ledger_by x.deed (ledger_of ns us) i (text_by p k l i f))
  pub journal : j' ≡ journal_by x.deed (ledger_of ns us) i (text_by p k l i f) j
  pub frames : f' ≡ frames_by x.deed k l i f

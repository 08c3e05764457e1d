-- What a taking does to the ledger, the journal and the buffer, and what it answers.
-- Assumes nothing.
use Rattle.journal.specs.declared.NotTaken.TheVariants.{Broken, BufferShort, NoLine, NothingWaiting, WrongSize}
use Rattle.journal.specs.declared.NotTaken.{NotTaken}
use Rattle.std.specs.Prelude.{◌≡◌, ℕ, ◌-◌, List, [], ◌∷◌, length, ◌==◌, nat_le, nat_lt, slice_index, slice_set, Err, None, Ok, Option, Result, Some}
use Rattle.memory.specs.Sizes.{lines, journal_size}
use Rattle.memory.specs.Parts.{splice}
use Rattle.memory.specs.Moves.{later}
use Rattle.memory.specs.Tests.{unless}
use Rattle.header.specs.Entry.{Entry, size}
use Rattle.journal.specs.Entries.{sizes, before, from}
use Rattle.journal.specs.Chain.{chain}
use Rattle.journal.specs.declared.Ledger.{Ledger}
use Rattle.journal.specs.declared.Taking.{Taking}

-- the ledger without an entry of this size on line l: its serial stays used [J8]
abbrev pub shrunk_by : Ledger → ℕ → ℕ → Ledger
shrunk_by d l n = record {
  in_use = d.in_use - n;
  used = slice_set d.used l (slice_index d.used l - n);
  serials = d.serials;
}

-- and without an entry
unfoldable pub shrunk : Ledger → ℕ → Entry → Ledger
shrunk d l e = shrunk_by d l (size e)

-- the journal after the entry at `at` is taken: later entries close up, and from the new end in use on every byte keeps its value [J12]
unfoldable pub without : Ledger → ℕ → Entry → List ℕ → List ℕ
without d at e j = splice j at (later j at (size e) d.in_use)

pub record AfterTaking : Type 0 where
  pub taking : Taking
  pub journal : List ℕ
  pub buffer : List ℕ

abbrev pub after_taking : Ledger → Result (ℕ × ℕ) NotTaken → List ℕ → List ℕ → AfterTaking
after_taking d a j b = record { taking = record { ledger = d; answer = a }; journal = j; buffer = b }

-- the entry at `at`, its text put over the start of the buffer; nothing changes where that is too short [A8, A45, J11]
unfoldable pub take_at : Ledger → ℕ → ℕ → Entry → List ℕ → List ℕ → AfterTaking
take_at d l at e j b =
    unless (nat_le (length e.text) (length b)) (after_taking d (Err BufferShort) j b)
    (after_taking (shrunk d l e) (Ok (length e.text, e.serial)) (without d at e j) (splice b 0 e.text))

-- the line's oldest entry is the first of the chain from it on [A44, J11]
abbrev pub take_oldest : Ledger → ℕ → ℕ → List Entry → List ℕ → List ℕ → AfterTaking
take_oldest d l at [] j b = after_taking d (Err NothingWaiting) j b
take_oldest d l at (e ∷ es) j b = take_at d l at e j b

-- 43 where there is no whole chain [A43]
abbrev pub take_from : Ledger → ℕ → Option (List Entry) → List ℕ → List ℕ → AfterTaking
take_from d l None j b = after_taking d (Err Broken) j b
take_from d l (Some es) j b = take_oldest d l (sizes (before l es)) (from l es) j b

-- 40, 41, then by the chain [A40, A41, O5]
unfoldable pub take_of : Ledger → ℕ → List ℕ → List ℕ → AfterTaking
take_of d l j b =
    unless (nat_lt l lines) (after_taking d (Err NoLine) j b)
    (unless (length j == journal_size) (after_taking d (Err WrongSize) j b)
    (take_from d l (chain d j) j b))

-- what taking says
pub record TakenFrom (d : Ledger) (l : ℕ) (j b : List ℕ) (r : Taking) (j' b' : List ℕ) : Type 0 where
  pub result : r ≡ (take_of d l j b).taking
  pub after : j' ≡ (take_of d l j b).journal
  pub lent : b' ≡ (take_of d l j b).buffer

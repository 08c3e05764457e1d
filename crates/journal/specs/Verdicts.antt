-- Whether an entry may be stored, and if not, why: the first ground that applies.
-- Assumes nothing.
use Rattle.std.specs.Option.{is_some}
use Rattle.journal.specs.declared.Refusal.TheVariants.{Broken, Malformed, NoLine, NoRoom, WrongSize}
use Rattle.journal.specs.declared.Refusal.{Refusal}
use Rattle.std.specs.Prelude.{ℕ, List, length, ◌==◌, nat_lt, Err, Ok, Result}
use Rattle.memory.specs.Sizes.{lines, journal_size}
use Rattle.memory.specs.Tests.{unless}
use Rattle.header.specs.Header.{entry_size}
use Rattle.header.specs.Entry.{is_text}
use Rattle.journal.specs.Chain.{chain}
use Rattle.room.specs.Room.{fits, raised}
use Rattle.journal.specs.declared.Ledger.{Ledger}

-- a text of n bytes for line l: that a length is no text's (46) is asked before the journal is looked at, since no such entry could be read back [O4, J6, J13]
unfoldable pub judge_of : Ledger → List ℕ → ℕ → ℕ → List ℕ → Result (Unit {0}) Refusal
judge_of d shares l n j =
    unless (nat_lt l lines) (Err NoLine)
    (unless (length j == journal_size) (Err WrongSize)
    (unless (is_text n) (Err Malformed)
    (unless (is_some (chain d j)) (Err Broken)
    (unless (fits shares (raised d.used l (entry_size n))) (Err NoRoom)
    (Ok tt)))))

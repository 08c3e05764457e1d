-- What a storing does to the ledger and the journal, and what it answers.
-- Assumes nothing.
use Rattle.std.specs.Result.{is_ok}
use Rattle.journal.specs.declared.Refusal.{Refusal}
use Rattle.std.specs.Prelude.{◌≡◌, ℕ, ◌+◌, ◌%◌, cond, List, length, slice_index, slice_set, Result}
use Rattle.memory.specs.Parts.{splice}
use Rattle.header.specs.Header.{serial_count, entry_size}
use Rattle.header.specs.Entry.{Entry, encode}
use Rattle.room.specs.Room.{raised}
use Rattle.journal.specs.Verdicts.{judge_of}
use Rattle.journal.specs.declared.Ledger.{Ledger}
use Rattle.journal.specs.declared.Storing.{Storing}

-- the entry that a text becomes: it gets the line's serial [J3]
abbrev pub new_entry : Ledger → ℕ → List ℕ → Entry
new_entry d l t = record { line = l; serial = slice_index d.serials l; text = t }

-- the ledger after it, by the entry's size: the serial is then advanced, and wraps [J3]
abbrev pub grown_by : Ledger → ℕ → ℕ → Ledger
grown_by d l size = record {
  in_use = d.in_use + size;
  used = raised d.used l size;
  serials = slice_set d.serials l ((slice_index d.serials l + 1) % serial_count);
}

-- and by its text's length [L9]
unfoldable pub grown : Ledger → ℕ → ℕ → Ledger
grown d l n = grown_by d l (entry_size n)

-- the journal after it: the entry stands behind the bytes in use [L9]
unfoldable pub appended : Ledger → ℕ → List ℕ → List ℕ → List ℕ
appended d l t j = splice j d.in_use (encode (new_entry d l t))

pub record AfterStoring : Type 0 where
  pub storing : Storing
  pub journal : List ℕ

abbrev pub after_storing : Ledger → Result (Unit {0}) Refusal → List ℕ → AfterStoring
after_storing d v j = record { storing = record { ledger = d; answer = v }; journal = j }

-- stored if it fits; otherwise nothing changes
abbrev pub store_by : Result (Unit {0}) Refusal → Ledger → ℕ → List ℕ → List ℕ → AfterStoring
store_by v d l t j = cond (is_ok v) (after_storing (grown d l (length t)) v (appended d l t j)) (after_storing d v j)

unfoldable pub store_of : Ledger → List ℕ → ℕ → List ℕ → List ℕ → AfterStoring
store_of d shares l t j = store_by (judge_of d shares l (length t) j) d l t j

-- what storing says
pub record Stored (d : Ledger) (shares : List ℕ) (l : ℕ) (t j : List ℕ) (r : Storing) (j' : List ℕ) : Type 0 where
  pub result : r ≡ (store_of d shares l t j).storing
  pub after : j' ≡ (store_of d shares l t j).journal

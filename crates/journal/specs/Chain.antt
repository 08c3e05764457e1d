-- The journal that a ledger tells of: whole, or broken (answer 43).
-- Assumes nothing.
use Rattle.std.specs.Prelude.{ℕ, zero, suc, Bool, true, cond, ◌&&◌, List, length, take, replicate, nat_eq, nat_le, slice_index, None, Option, Some}
use Rattle.memory.specs.Sizes.{lines}
use Rattle.header.specs.Entry.{Entry}
use Rattle.journal.specs.Entries.{entries, total}
use Rattle.journal.specs.declared.Ledger.{Ledger}

-- no entries, and every line's next serial is 0 [E3]
abbrev pub fresh_ledger : Ledger
fresh_ledger = record { in_use = 0; used = replicate lines 0; serials = replicate lines 0 }

-- the test holds of every number below n
abbrev pub every : ℕ → (ℕ → Bool) → Bool
every zero p = true
every (suc n) p = p n && every n p

-- the used counts are the sums of the lines' entries [J4, J9]
abbrev pub agree : List ℕ → List Entry → Bool
agree used es = every lines (λ l. nat_eq (slice_index used l) (total l es))

abbrev pub counted : List ℕ → Option (List Entry) → Option (List Entry)
counted used None = None
counted used (Some es) = cond (agree used es) (Some es) None

-- the entries waiting; none exactly if the journal is broken: the bytes in use exceed it, are no whole chain, or its sums are not the used counts [A43, J9, J10]
unfoldable pub chain : Ledger → List ℕ → Option (List Entry)
chain d j = cond (nat_le d.in_use (length j)) (counted d.used (entries (take d.in_use j))) None

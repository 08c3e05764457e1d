-- After a taking the bytes in use are still a number of 32 bits.
-- Assumes nothing.
use Rattle.std.specs.Prelude.{None, Option, Some}
use mathlib.Core.Bool.{Bool, true, false}
use mathlib.Core.List.{List, [], ◌∷◌}
use Prim.Native.Nat.{ℕ}
use native.Mathlib.Omega.{arith}
use lib.Dec.{ltb, leb, eqb}
use lib.ListN.{length}
use Rattle.memory.specs.Sizes.{lines, journal_size}
use Rattle.memory.specs.Tests.{unless}
use Rattle.header.specs.Entry.{Entry}
use Rattle.journal.specs.Entries.{sizes, before, from}
use Rattle.journal.specs.Chain.{chain}
use Rattle.journal.specs.Removal.{AfterTaking, shrunk, take_at, take_oldest, take_from, take_of}
use Rattle.journal.specs.declared.Ledger.{Ledger}
use Rattle.ledger.specs.Ledgers.{Narrow}

either : (t : Bool) (a b : AfterTaking) → Narrow a.taking.ledger → Narrow b.taking.ledger → Narrow (unless t a b).taking.ledger
either true a b p q = q
either false a b p q = p

module _ (d : Ledger) (i : ℕ) (j b : List ℕ) (w : Narrow d) where
  shrunk_narrow : (e : Entry) → Narrow (shrunk d i e)
  unfolding shrunk
  shrunk_narrow e = omega arith

  at_narrow : (at : ℕ) (e : Entry) → Narrow (take_at d i at e j b).taking.ledger
  unfolding take_at
  at_narrow at e = either (leb (length e.text) (length b)) _ _ w (shrunk_narrow e)

  oldest_narrow : (at : ℕ) (es : List Entry) → Narrow (take_oldest d i at es j b).taking.ledger
  oldest_narrow at [] = w
  oldest_narrow at (e ∷ es) = at_narrow at e

  from_narrow : (o : Option (List Entry)) → Narrow (take_from d i o j b).taking.ledger
  from_narrow None = w
  from_narrow (Some es) = oldest_narrow (sizes (before i es)) (from i es)

  pub taking_narrow : Narrow (take_of d i j b).taking.ledger
  unfolding take_of
  taking_narrow = either (ltb i lines) _ _ w (either (eqb (length j) journal_size) _ _ w (from_narrow (chain d j)))

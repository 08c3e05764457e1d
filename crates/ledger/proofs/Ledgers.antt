-- Laws of the ledger in plain numbers.
-- Assumes nothing.
use mathlib.Core.Path.{◌≡◌, refl, ap, ◌∙◌}
use mathlib.Core.List.{List}
use Prim.Native.Nat.{ℕ, zero, suc, ◌<◌}
use native.Mathlib.Omega.{arith}
use borrow.Author.Tests.{lt-ltb}
use lib.Dec.{ltb}
use lib.ListN.{get_or, set}
use lib.Seq.{set-get_or}
use Rattle.memory.specs.Sizes.{lines}
use Rattle.memory.specs.Tests.{unless}
use Rattle.layout.specs.Layout.{number_at}
use Rattle.ledger.specs.Ledgers.{ledger_of, with_used}

-- a number stored where it stands changes nothing
pub again : (ns : List ℕ) (k v : ℕ) → v ≡ get_or ns k 0 → set ns k v ≡ ns
again ns k v e = ap (λ (x : ℕ). set ns k x) e ∙ set-get_or ns k 0

-- what the ledger has of a line
pub used_at : (ns us : List ℕ) (i : ℕ) → i < lines → get_or (ledger_of ns us).used i 0 ≡ get_or us i 0
unfolding ledger_of
used_at ns us zero h = refl
used_at ns us (suc zero) h = refl
used_at ns us (suc (suc zero)) h = refl
used_at ns us (suc (suc (suc zero))) h = refl
used_at ns us (suc (suc (suc (suc zero)))) h = refl
used_at ns us (suc (suc (suc (suc (suc zero))))) h = refl
used_at ns us (suc (suc (suc (suc (suc (suc zero)))))) h = refl
used_at ns us (suc (suc (suc (suc (suc (suc (suc zero))))))) h = refl
used_at ns us (suc (suc (suc (suc (suc (suc (suc (suc i)))))))) h = absurd (omega arith)

pub serial_at_law : (ns us : List ℕ) (i : ℕ) → i < lines → get_or (ledger_of ns us).serials i 0 ≡ number_at ns i 7
unfolding ledger_of
serial_at_law ns us zero h = refl
serial_at_law ns us (suc zero) h = refl
serial_at_law ns us (suc (suc zero)) h = refl
serial_at_law ns us (suc (suc (suc zero))) h = refl
serial_at_law ns us (suc (suc (suc (suc zero)))) h = refl
serial_at_law ns us (suc (suc (suc (suc (suc zero))))) h = refl
serial_at_law ns us (suc (suc (suc (suc (suc (suc zero)))))) h = refl
serial_at_law ns us (suc (suc (suc (suc (suc (suc (suc zero))))))) h = refl
serial_at_law ns us (suc (suc (suc (suc (suc (suc (suc (suc i)))))))) h = absurd (omega arith)

in_use_at : (ns us : List ℕ) → (ledger_of ns us).in_use ≡ get_or us lines 0
unfolding ledger_of
in_use_at ns us = refl

-- the ledger that the numbers stand for, put back
pub used_back : (ns us : List ℕ) (i : ℕ) → i < lines → with_used us i (ledger_of ns us) ≡ us
used_back ns us i h = rw (again us i (get_or (ledger_of ns us).used i 0) (used_at ns us i h)) (again us lines (ledger_of ns us).in_use (in_use_at ns us))

-- on a line that is there, what is put is put
pub there : {A : Type 0} (i : ℕ) (x y : A) → i < lines → unless (ltb i lines) x y ≡ y
there i x y h = rw (lt-ltb i lines h)

-- What each way out of writing a number's digits says, and what it did where there is room.
-- Assumes nothing.
use mathlib.Core.Path.{◌≡◌, ◌∙◌}
use mathlib.Core.List.{List}
use Prim.Native.Nat.{ℕ, ◌+◌, ◌≤◌, ◌<◌}
use lib.ListN.{length}
use borrow.Author.Tests.{le-leb, lt-leb}
use Rattle.memory.specs.Parts.{splice}
use Rattle.memory.specs.Moves.{copied}
use Rattle.decimal.specs.Decimal.{decimal_of}
use Rattle.decimal.specs.Putting.{end_of, DecimalPut}

module _ (n : ℕ) (out : List ℕ) (at : ℕ) where
  pub not_put : length out < at + length (decimal_of n) → DecimalPut n out at at out
  unfolding end_of copied
  not_put h = let full = lt-leb (at + length (decimal_of n)) (length out) h in record { answer = rw full; after = rw full }

  pub put : {r : ℕ} {out' : List ℕ} → at + length (decimal_of n) ≤ length out → (r ≡ at + length (decimal_of n)) × (out' ≡ splice out at (decimal_of n))
      → DecimalPut n out at r out'
  unfolding end_of copied
  put h p = let fits = le-leb (at + length (decimal_of n)) (length out) h in record { answer = rw fits p.0; after = rw fits p.1 }

  -- what was done where there is room
  pub put_fits : {r : ℕ} {out' : List ℕ} → DecimalPut n out at r out' → at + length (decimal_of n) ≤ length out
      → (r ≡ at + length (decimal_of n)) × (out' ≡ splice out at (decimal_of n))
  unfolding end_of copied
  put_fits p h = let fits = le-leb (at + length (decimal_of n)) (length out) h in (p.answer ∙ rw fits, p.after ∙ rw fits)

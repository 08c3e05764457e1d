-- Any two outcomes that a contract of this crate allows are equal.
-- Assumes nothing.
use mathlib.Core.Path.{◌≡◌, sym, ◌∙◌}
use mathlib.Core.List.{List}
use Prim.Native.Nat.{ℕ}
use lib.ListN.{length}
use Rattle.memory.specs.Tests.{is, find}
use Rattle.records.specs.Records.{records}

-- `index_of`
pub index_once : (text : List ℕ) (b : ℕ) {r q : ℕ} → r ≡ find (is b) text → q ≡ find (is b) text → r ≡ q
index_once text b a e = a ∙ sym e

-- `count_records`
pub count_once : (text : List ℕ) {r q : ℕ} → r ≡ length (records text) → q ≡ length (records text) → r ≡ q
count_once text a b = a ∙ sym b

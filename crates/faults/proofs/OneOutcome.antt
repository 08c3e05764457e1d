-- Any two outcomes that a contract of this crate allows are equal.
-- Assumes nothing.
use Rattle.std.specs.Prelude.{Result}
use Rattle.faults.specs.declared.Flaw.{Flaw}
use mathlib.Core.Path.{◌≡◌, sym, ◌∙◌}
use mathlib.Core.List.{List}
use Prim.Native.Nat.{ℕ}
use Rattle.faults.specs.Faults.{fault_of}

-- `check`
pub check_once : (text : List ℕ) {r q : Result (Unit {0}) Flaw} → r ≡ fault_of text → q ≡ fault_of text → r ≡ q
check_once text a b = a ∙ sym b

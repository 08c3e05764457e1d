-- Any two outcomes that a contract of this crate allows are equal. Those of `put_serial` and `put_used` are one equation each: memory's `one_value` says it.
-- Assumes nothing.
use mathlib.Core.Path.{◌≡◌, sym, ◌∙◌}
use mathlib.Core.List.{List}
use Prim.Native.Nat.{ℕ}
use Rattle.journal.specs.declared.Ledger.{Ledger}
use Rattle.ledger.specs.Ledgers.{LedgerRead}

-- `ledger_of`
pub ledger_once : (ns us : List ℕ) {d e : Ledger} → LedgerRead ns us d → LedgerRead ns us e → d ≡ e
ledger_once ns us x y = x.result ∙ sym y.result

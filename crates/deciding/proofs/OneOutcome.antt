-- Any two outcomes that a contract of this crate allows are equal.
-- Assumes nothing.
use mathlib.Core.Path.{◌≡◌, sym, ◌∙◌}
use mathlib.Core.List.{List}
use Prim.Native.Nat.{ℕ}
use Rattle.journal.specs.declared.Ledger.{Ledger}
use Rattle.deciding.specs.Decisions.{Decision}
use Rattle.deciding.specs.declared.Decided.{Decided}

-- `decide`
pub decision_once : (d : Ledger) (i : ℕ) (text j : List ℕ) {r s : Decided} {j₁ j₂ : List ℕ} → Decision d i text j r j₁ → Decision d i text j s j₂ → (r ≡ s) × (j₁ ≡ j₂)
decision_once d i text j {r} {s} a b =
    let outcome : r.outcome ≡ s.outcome = a.outcome ∙ sym b.outcome in
    let ledger : r.ledger ≡ s.ledger = a.ledger ∙ sym b.ledger in
    (λ z. record { outcome = outcome z; ledger = ledger z }, a.journal ∙ sym b.journal)

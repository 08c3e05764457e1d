-- Any two outcomes that a contract of this crate allows are equal.
-- Assumes nothing.
use mathlib.Core.Path.{◌≡◌, sym, ◌∙◌}
use Prim.Native.Nat.{ℕ}
use Rattle.journal.specs.declared.Ledger.{Ledger}
use Rattle.line.specs.declared.Line.{Line}
use Rattle.looking.specs.declared.Event.{Event}
use Rattle.receiving.specs.Steps.{Memory}
use Rattle.receiving.specs.declared.Stepped.{Stepped}
use Rattle.completing.specs.Deciding.{Deciding}

-- `decide`
pub decide_once : (l : Line) (d : Ledger) (e : Event) (n : ℕ) (m : Memory) {r s : Stepped} {m₁ m₂ : Memory} → Deciding l d e n m r m₁ → Deciding l d e n m s m₂ → (r ≡ s) × (m₁ ≡ m₂)
decide_once l d e n m a b = (a.result ∙ sym b.result, a.memory ∙ sym b.memory)

-- Any two outcomes that a contract of this crate allows are equal.
-- Assumes nothing.
use mathlib.Core.Path.{◌≡◌, sym, ◌∙◌}
use Rattle.journal.specs.declared.Ledger.{Ledger}
use Rattle.line.specs.declared.Line.{Line}
use Rattle.looking.specs.declared.Event.{Event}
use Rattle.receiving.specs.Steps.{Memory, Stepping}
use Rattle.receiving.specs.declared.Stepped.{Stepped}

-- `step`, and `step_in_place` with the line, the ledger and the answer in one record
pub step_once : (l : Line) (d : Ledger) (e : Event) (m : Memory) {r s : Stepped} {m₁ m₂ : Memory} → Stepping l d e m r m₁ → Stepping l d e m s m₂ → (r ≡ s) × (m₁ ≡ m₂)
step_once l d e m a b = (a.result ∙ sym b.result, a.memory ∙ sym b.memory)

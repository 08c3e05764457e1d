-- Any two outcomes that a contract of this crate allows are equal.
-- Assumes nothing.
use mathlib.Core.Path.{◌≡◌, sym, ◌∙◌}
use Rattle.looking.specs.declared.Event.{Event}
use Rattle.calls.specs.Calls.{HostState, Calling}
use Rattle.answers.specs.declared.Answered.{Answered}

-- `byte` and `seconds`, each with its event
pub call_once : (s : HostState) (e : Event) {r q : Answered} {t u : HostState} → Calling s e r t → Calling s e q u → (r ≡ q) × (t ≡ u)
call_once s e a b = (a.result ∙ sym b.result, a.state ∙ sym b.state)

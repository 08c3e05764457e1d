-- Any two outcomes that the contract of `event` allows are equal.
-- Assumes nothing.
use mathlib.Core.Path.{◌≡◌, sym, ◌∙◌}
use Rattle.answers.specs.declared.Answered.{Answered}
use Rattle.looking.specs.declared.Event.{Event}
use Rattle.uploads.specs.Host.{HostState}
use Rattle.uploads.specs.Calls.{Uploading}

pub upload_once : (s : HostState) (e : Event) {r q : Answered} {t u : HostState} → Uploading s e r t → Uploading s e q u → (r ≡ q) × (t ≡ u)
upload_once s e a b = (a.result ∙ sym b.result, a.state ∙ sym b.state)

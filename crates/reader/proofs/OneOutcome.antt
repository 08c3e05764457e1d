-- Any two outcomes that a contract of this crate allows are equal.
-- Assumes nothing.
use mathlib.Core.Path.{◌≡◌, sym, ◌∙◌}
use mathlib.Core.List.{List}
use Prim.Native.Nat.{ℕ}
use Rattle.answers.specs.declared.Answered.{Answered}
use Rattle.reader.specs.Takings.{TakeState, Taken}

-- `take`
pub take_once : (numbers : List ℕ) (i : ℕ) (s : TakeState) {r q : Answered} {t u : TakeState} → Taken numbers i s r t → Taken numbers i s q u → (r ≡ q) × (t ≡ u)
take_once numbers i s a b = (a.result ∙ sym b.result, a.state ∙ sym b.state)

-- Any two outcomes that a contract of this crate allows are equal. That of `sizes` is one equation: memory's `one_value` says it.
-- Assumes nothing.
use mathlib.Core.Path.{◌≡◌, sym, ◌∙◌}
use mathlib.Core.List.{List}
use Prim.Native.Nat.{ℕ}
use Rattle.layout.specs.Layout.{Fresh, Started}

-- `fresh`
pub fresh_once : {ns₁ us₁ ns₂ us₂ : List ℕ} → Fresh ns₁ us₁ → Fresh ns₂ us₂ → (ns₁ ≡ ns₂) × (us₁ ≡ us₂)
fresh_once a b = (a.numbers ∙ sym b.numbers, a.counts ∙ sym b.counts)

-- `start`
pub started_once : {ts ns us ns₁ us₁ ns₂ us₂ : List ℕ} {r₁ r₂ : ℕ} → Started ts ns us r₁ ns₁ us₁ → Started ts ns us r₂ ns₂ us₂ → (r₁ ≡ r₂) × (ns₁ ≡ ns₂) × (us₁ ≡ us₂)
started_once a b = (a.answer ∙ sym b.answer, a.numbers ∙ sym b.numbers, a.counts ∙ sym b.counts)

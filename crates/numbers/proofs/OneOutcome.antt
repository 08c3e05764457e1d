-- Any two outcomes that a contract of this crate allows are equal. Those of `is_within`, `record_of` and `put_record` are one equation each: memory's `one_value` says it.
-- Assumes nothing.
use mathlib.Core.Path.{◌≡◌, sym, ◌∙◌}
use mathlib.Core.Bool.{Bool}
use mathlib.Core.List.{List}
use Prim.Native.Nat.{ℕ}
use Rattle.looking.specs.declared.Kind.{Kind}
use Rattle.numbers.specs.Changes.{Collected, Begun}

-- `collect`
pub collect_once : (ns : List ℕ) (i b : ℕ) (f : List ℕ) {r q : Bool} {ns₁ f₁ ns₂ f₂ : List ℕ} → Collected ns i b f r ns₁ f₁ → Collected ns i b f q ns₂ f₂ → (r ≡ q) × (ns₁ ≡ ns₂) × (f₁ ≡ f₂)
collect_once ns i b f x y = (x.result ∙ sym y.result, x.numbers ∙ sym y.numbers, x.frames ∙ sym y.frames)

-- `begin`
pub begin_once : (ns : List ℕ) (i : ℕ) (k : Kind) {r q : Bool} {ns₁ ns₂ : List ℕ} → Begun ns i k r ns₁ → Begun ns i k q ns₂ → (r ≡ q) × (ns₁ ≡ ns₂)
begin_once ns i k x y = (x.result ∙ sym y.result, x.numbers ∙ sym y.numbers)

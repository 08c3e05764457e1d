-- Any two outcomes that the contract of `cut` allows are equal.
-- Assumes nothing.
use Rattle.std.specs.Prelude.{Result, ℕ}
use Rattle.faults.specs.declared.Refusal.{Refusal}
use mathlib.Core.Path.{◌≡◌, sym, ◌∙◌}
use mathlib.Core.List.{List}
use Prim.Native.Nat.{ℕ}
use Rattle.cutting.specs.Frames.{CutInto}

pub cut_once : (limit : ℕ) (text out : List ℕ) {r q : Result ℕ Refusal} {x y : List ℕ} → CutInto limit text out r x → CutInto limit text out q y → (r ≡ q) × (x ≡ y)
cut_once limit text out a b = (a.answer ∙ sym b.answer, a.after ∙ sym b.after)

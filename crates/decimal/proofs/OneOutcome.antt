-- Any two outcomes that a contract of this crate allows are equal. For `size` memory's `one_value` says it.
-- Assumes nothing.
use mathlib.Core.Path.{◌≡◌, sym, ◌∙◌}
use mathlib.Core.List.{List}
use Prim.Native.Nat.{ℕ}
use Rattle.decimal.specs.Putting.{DecimalPut}

-- `put`
pub put_once : (n : ℕ) (out : List ℕ) (at : ℕ) {r q : ℕ} {x y : List ℕ} → DecimalPut n out at r x → DecimalPut n out at q y → (r ≡ q) × (x ≡ y)
put_once n out at a b = (a.answer ∙ sym b.answer, a.after ∙ sym b.after)

-- Any two outcomes that a contract of this crate allows are equal; that of `read_field` is one equation (`one_value` of `memory`).
-- Assumes nothing.
use mathlib.Core.Path.{◌≡◌, sym, ◌∙◌}
use mathlib.Core.Bool.{Bool}
use mathlib.Core.List.{List}
use Prim.Native.Nat.{ℕ}
use Rattle.packed.specs.Fields.{FieldWritten}

-- `write_field`
pub field_written_once : (d : List ℕ) (at size n : ℕ) {r q : Bool} {x y : List ℕ} → FieldWritten d at size n r x → FieldWritten d at size n q y → (r ≡ q) × (x ≡ y)
field_written_once d at size n a b = (a.answer ∙ sym b.answer, a.after ∙ sym b.after)

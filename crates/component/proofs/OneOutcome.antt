-- Any two outcomes that a contract of this crate allows are equal.
-- Assumes nothing.
use mathlib.Core.Path.{◌≡◌, sym, ◌∙◌}
use mathlib.Core.List.{List}
use Prim.Native.Nat.{ℕ}
use Rattle.records.specs.Fields.{field_of}
use Rattle.kinds.specs.declared.Delimiters.{Delimiters}
use Rattle.component.specs.Component.{component_end}
use Rattle.component.specs.ResultFields.{result_number}
use Rattle.component.specs.declared.ResultField.{ResultField}

-- `component_end`
pub end_once : (d : Delimiters) (text : List ℕ) (start : ℕ) {r q : ℕ} → r ≡ component_end d text start → q ≡ component_end d text start → r ≡ q
end_once d text start a b = a ∙ sym b

-- `field_of` and `result_field`: the bytes of the part that is returned
pub field_once : (d : Delimiters) (rec : List ℕ) (n : ℕ) {r q : List ℕ} → r ≡ field_of d.field n rec → q ≡ field_of d.field n rec → r ≡ q
field_once d rec n a b = a ∙ sym b

pub result_field_once : (d : Delimiters) (rec : List ℕ) (f : ResultField) {r q : List ℕ}
    → r ≡ field_of d.field (result_number f) rec → q ≡ field_of d.field (result_number f) rec → r ≡ q
result_field_once d rec f a b = field_once d rec (result_number f) a b

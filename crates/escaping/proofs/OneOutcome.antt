-- Any two outcomes that a contract of this crate allows are equal.
-- Assumes nothing.
use Rattle.std.specs.Prelude.{Result, ℕ}
use Rattle.escaping.specs.declared.Refusal.{Refusal}
use mathlib.Core.Path.{◌≡◌, sym, ◌∙◌}
use mathlib.Core.List.{List}
use Prim.Native.Nat.{ℕ}
use Rattle.kinds.specs.declared.Delimiters.{Delimiters}
use Rattle.escaping.specs.Escape.{Escaping}
use Rattle.escaping.specs.Unescape.{Unescaping}

-- `escape`
pub escape_once : (d : Delimiters) (text out : List ℕ) {r q : Result ℕ Refusal} {x y : List ℕ} → Escaping d text out r x → Escaping d text out q y → (r ≡ q) × (x ≡ y)
escape_once d text out a b = (a.answer ∙ sym b.answer, a.after ∙ sym b.after)

-- `unescape`
pub unescape_once : (d : Delimiters) (c out : List ℕ) {r q : Result ℕ Refusal} {x y : List ℕ} → Unescaping d c out r x → Unescaping d c out q y → (r ≡ q) × (x ≡ y)
unescape_once d c out a b = (a.answer ∙ sym b.answer, a.after ∙ sym b.after)

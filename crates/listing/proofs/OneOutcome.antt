-- Any two outcomes that a contract of this crate allows are equal. For `read`, whose contract is one equation, memory's `one_value` says it.
-- Assumes nothing.
use Rattle.std.specs.Prelude.{Option, ℕ}
use Rattle.listing.specs.declared.Item.{Item}
use Rattle.std.proofs.Common.{◌≡◌, ℕ, List, sym, ◌∙◌}
use Rattle.memory.proofs.OneOutcome.{one_value}
use Rattle.listing.specs.Items.{item_of}
use Rattle.listing.specs.Texts.{TextWritten}

-- `read`
pub read_once : (text : List ℕ) {r q : Option Item} → r ≡ item_of text → q ≡ item_of text → r ≡ q
read_once text a b = one_value (item_of text) a b

-- `write_header`, `write_row`, `write_total` and `write_fault`, each at its own text
pub written_once : (text out : List ℕ) (at : ℕ) {r q : Option ℕ} {x y : List ℕ} → TextWritten text out at r x → TextWritten text out at q y → (r ≡ q) × (x ≡ y)
written_once text out at a b = (a.answer ∙ sym b.answer, a.after ∙ sym b.after)

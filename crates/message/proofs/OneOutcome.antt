-- Any two outcomes that a contract of this crate allows are equal.
-- Assumes nothing.
use Rattle.std.proofs.Common.{◌≡◌, ℕ, Bool, List, sym, ◌∙◌}
use Rattle.faults.specs.Message.{is_message}

-- `is_message`
pub message_once : (text : List ℕ) {r q : Bool} → r ≡ is_message text → q ≡ is_message text → r ≡ q
message_once text a b = a ∙ sym b

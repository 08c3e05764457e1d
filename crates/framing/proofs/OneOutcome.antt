-- Any two outcomes that a contract of this crate allows are equal. Where the contract is one equation, memory's `one_value` says it.
-- Assumes nothing.
use Rattle.std.specs.Prelude.{Result, ℕ}
use Rattle.framing.specs.declared.Refusal.{Refusal}
use Rattle.std.proofs.Common.{◌≡◌, ℕ, List, sym, ◌∙◌}
use Rattle.framing.specs.Writing.{FramePut}
use Rattle.frame.specs.declared.End.{End}

-- `put_frame`
pub frame_put_once : (number : ℕ) (end : End) (text out : List ℕ) {r q : Result ℕ Refusal} {x y : List ℕ}
    → FramePut number end text out r x → FramePut number end text out q y → (r ≡ q) × (x ≡ y)
frame_put_once number end text out a b = (a.answer ∙ sym b.answer, a.after ∙ sym b.after)

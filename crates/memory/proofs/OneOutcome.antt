-- Any two outcomes that a contract of this crate allows are equal.
-- Assumes nothing.
use mathlib.Core.Path.{◌≡◌, sym, ◌∙◌}
use mathlib.Core.Bool.{Bool}
use mathlib.Core.List.{List}
use Prim.Native.Nat.{ℕ}
use Rattle.memory.specs.Moves.{Copied, ClosedUp}

-- a contract that is one equation, as those of most functions of the crates above
pub one_value : {A : Type 0} (value : A) {r q : A} → r ≡ value → q ≡ value → r ≡ q
one_value value a b = a ∙ sym b

-- `copy` (at 0) and `copy_at`
pub copied_once : (d : List ℕ) (at : ℕ) (s : List ℕ) {r q : Bool} {x y : List ℕ} → Copied d at s r x → Copied d at s q y → (r ≡ q) × (x ≡ y)
copied_once d at s a b = (a.answer ∙ sym b.answer, a.after ∙ sym b.after)

-- `close_up`
pub closed_up_once : (d : List ℕ) (at gap end : ℕ) {r q : Bool} {x y : List ℕ} → ClosedUp d at gap end r x → ClosedUp d at gap end q y → (r ≡ q) × (x ≡ y)
closed_up_once d at gap end a b = (a.answer ∙ sym b.answer, a.after ∙ sym b.after)

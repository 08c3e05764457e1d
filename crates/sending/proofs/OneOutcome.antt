-- Any two outcomes that the contract of `put_offered` allows are equal. Of the other functions memory's `one_value` says it.
-- Assumes nothing.
use Rattle.std.specs.Prelude.{Option, Result, ℕ}
use Rattle.framing.specs.declared.Refusal.{Refusal}
use mathlib.Core.Path.{◌≡◌, sym, ◌∙◌}
use mathlib.Core.List.{List}
use Prim.Native.Nat.{ℕ}
use Rattle.frame.specs.Piece.{Piece}
use Rattle.sending.specs.Offered.{PiecePut}

pub offered_put_once : (number : ℕ) (p : Option Piece) (out : List ℕ) {r q : Result ℕ Refusal} {x y : List ℕ}
    → PiecePut number p out r x → PiecePut number p out q y → (r ≡ q) × (x ≡ y)
offered_put_once number p out a b = (a.answer ∙ sym b.answer, a.after ∙ sym b.after)

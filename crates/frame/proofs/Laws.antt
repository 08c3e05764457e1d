-- When a frame is ended, in the words of rule A21.
-- Assumes nothing.
use mathlib.Core.Path.{◌≡◌, sym, ◌∙◌}
use mathlib.Core.Bool.{true, false, false≢true}
use mathlib.Core.List.{List}
use mathlib.Core.Logic.{◌⊎◌, inl, inr}
use Prim.Native.Nat.{ℕ, ◌+◌, ◌<◌}
use borrow.Author.Tests.{eq-eqb, lt-ltb}
use lib.ListN.{length}
use Rattle.characters.specs.Control.{lf}
use Rattle.frame.specs.Shape.{from_end, is_ended}

-- a line collects up to the first LF or to the last byte of the limit. Of such bytes, 21 is given exactly if that last byte is not LF
module _ (limit : ℕ) (bs : List ℕ) (within : length bs < limit) where
  pub ended_by_lf : from_end bs 1 ≡ lf → is_ended limit bs ≡ true
  unfolding is_ended
  ended_by_lf e = rw (lt-ltb (length bs) limit within) (eq-eqb (from_end bs 1) lf e)

  pub unended_at_limit : (from_end bs 1 ≡ lf) ⊎ (length bs + 1 ≡ limit) → is_ended limit bs ≡ false → (length bs + 1 ≡ limit) × (from_end bs 1 ≡ lf → ⊥)
  unended_at_limit (inl e) f = absurd (false≢true (sym f ∙ ended_by_lf e))
  unended_at_limit (inr e) f = (e, λ l. false≢true (sym f ∙ ended_by_lf l))

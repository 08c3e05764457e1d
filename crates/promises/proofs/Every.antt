-- What holds of each of a list, of two lists joined.
-- Assumes nothing.
use mathlib.Core.List.{List, [], ◌∷◌, ◌++◌}
use Rattle.serial.specs.Serial.{Every}

module _ {X : Type 0} (Q : X → Type 0) where
  pub every_both : (xs ys : List X) → Every Q xs → Every Q ys → Every Q (xs ++ ys)
  every_both [] ys p q = q
  every_both (x ∷ xs) ys p q = (p.0, every_both xs ys p.1 q)

  pub every_left : (xs ys : List X) → Every Q (xs ++ ys) → Every Q xs
  every_left [] ys p = tt
  every_left (x ∷ xs) ys p = (p.0, every_left xs ys p.1)

  pub every_right : (xs ys : List X) → Every Q (xs ++ ys) → Every Q ys
  every_right [] ys p = p
  every_right (x ∷ xs) ys p = every_right xs ys p.1

  pub every_so : (R : X → Type 0) → ((x : X) → Q x → R x) → (xs : List X) → Every Q xs → Every R xs
  every_so R f [] p = tt
  every_so R f (x ∷ xs) p = (f x p.0, every_so R f xs p.1)

-- Whether a byte is one of a list's, as the list's own search says it.
-- Assumes nothing.
use Rattle.std.proofs.Common.{◌≡◌, ℕ, List, [], ◌∷◌, refl, ap, Bool, ◌||◌, nat_eq, arith}
use Rattle.std.proofs.lemmas.Bool.Decides.{nat_tests}
use Rattle.std.specs.List.{list_any}
use Rattle.memory.specs.Tests.{is_one_of}

pub among : (ys : List ℕ) (x : ℕ) → list_any (λ y. nat_eq y x) ys ≡ is_one_of ys x
among [] x = refl
among (y ∷ ys) x = rw (among ys x) (ap (λ (b : Bool). b || is_one_of ys x) (grind (arith, nat_tests)))

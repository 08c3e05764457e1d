-- Any two outcomes that a contract of this crate allows are equal.
-- Assumes nothing.
use mathlib.Core.Path.{◌≡◌, sym, ◌∙◌}
use mathlib.Core.List.{List}
use Prim.Native.Nat.{ℕ}
use Rattle.kinds.specs.declared.Kind.{Kind}
use Rattle.sequence.specs.Numbers.{number_of, count_of, counted}
use Rattle.sequence.specs.declared.Counts.{Counts}

-- `number`
pub number_once : (f : List ℕ) {r q : ℕ} → r ≡ number_of f → q ≡ number_of f → r ≡ q
number_once f a b = a ∙ sym b

-- `count_of`
pub count_of_once : (s : Counts) (k : Kind) {r q : ℕ} → r ≡ count_of s k → q ≡ count_of s k → r ≡ q
count_of_once s k a b = a ∙ sym b

-- `count_on`
pub count_on_once : (s : Counts) (k : Kind) (n : ℕ) {r q : Counts} → r ≡ counted s k n → q ≡ counted s k n → r ≡ q
count_on_once s k n a b = a ∙ sym b

-- The table of classes tells the bytes that are allowed, and those that are ordinary.
-- Assumes nothing.
use Rattle.std.proofs.Common.{◌≡◌, ℕ, zero, suc, ◌<◌, Bool, true, false, cond, not, ◌&&◌, eqb, List, ◌∷◌, get_or, refl, ap, ◌∙◌}
use Rattle.memory.specs.Tests.{is}
use Rattle.memory.proofs.Table.{values, entry}
use Rattle.characters.specs.Control.{cr}
use Rattle.characters.specs.Allowed.{allowed, ordinary, plus, dot, dash, class_of, classes_from, class_table}

by_rule : (i n : ℕ) → classes_from i n ≡ values class_of i n
by_rule i zero = refl
by_rule i (suc n) = ap (λ (l : List ℕ). class_of i ∷ l) (by_rule (suc i) n)

class_at : (b : ℕ) → b < 256 → get_or class_table b 0 ≡ class_of b
unfolding class_table
class_at b h = ap (λ (l : List ℕ). get_or l b 0) (by_rule 0 256) ∙ entry class_of 0 256 b h

not_dash : (ok ends : Bool) → not (eqb (cond ok (cond ends dot plus) dash) dash) ≡ ok
not_dash true true = refl
not_dash true false = refl
not_dash false ends = refl

is_plus : (ok ends : Bool) → eqb (cond ok (cond ends dot plus) dash) plus ≡ ok && not ends
is_plus true true = refl
is_plus true false = refl
is_plus false ends = refl

pub class_told : (b : ℕ) → b < 256 → not (eqb (get_or class_table b 0) dash) ≡ allowed b
class_told b h = ap (λ (x : ℕ). not (eqb x dash)) (class_at b h) ∙ not_dash (allowed b) (is cr b)

pub ordinary_told : (b : ℕ) → b < 256 → eqb (get_or class_table b 0) plus ≡ ordinary b
unfolding ordinary
ordinary_told b h = ap (λ (x : ℕ). eqb x plus) (class_at b h) ∙ is_plus (allowed b) (is cr b)

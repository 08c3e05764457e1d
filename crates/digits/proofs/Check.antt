-- The sum of a list of bytes.
-- Assumes nothing.
use Rattle.std.proofs.Common.{◌≡◌, ℕ, ◌+◌, ◌<◌, List, [], ◌∷◌, ◌++◌, length, get_or, take, sym, ap, ◌∙◌, add-zero, add_assoc, zero-add, add-one, take-suc}
use Rattle.digits.specs.Check.{total}

pub total_append : (xs ys : List ℕ) → total (xs ++ ys) ≡ total xs + total ys
unfolding total
total_append [] ys = sym (zero-add (total ys))
total_append (x ∷ xs) ys = ap (λ (n : ℕ). x + n) (total_append xs ys) ∙ sym (add_assoc x (total xs) (total ys))

one : (b : ℕ) → total (b ∷ []) ≡ b
unfolding total
one b = add-zero b

-- the sum of one byte more
pub total_more : (s : List ℕ) (i : ℕ) → i < length s → total (take (i + 1) s) ≡ total (take i s) + get_or s i 0
total_more s i h = rw (add-one i, take-suc s i 0 h, total_append (take i s) (get_or s i 0 ∷ []), one (get_or s i 0))

-- Trimming, by the places where the bytes between the spaces begin and end.
-- Assumes nothing.
use mathlib.Core.Path.{◌≡◌, refl, ap}
use mathlib.Core.Bool.{true, false}
use mathlib.Core.List.{List, [], ◌∷◌}
use Prim.Native.Nat.{ℕ, zero, suc, ◌-◌, ◌<◌, ◌≤◌}
use native.Mathlib.Omega.{arith}
use lib.ListN.{length, get_or, take, drop, drop_of_length-le}
use borrow.Author.Tests.{eq-eqb, ne_eqb}
use Rattle.memory.specs.Tests.{all}
use Rattle.memory.proofs.Tests.{and_not_right}
use Rattle.finding.specs.Trimmed.{is_space, trimmed_front, trimmed_back}

-- the place before which all bytes are spaces, and where none is
pub front_at : (s : List ℕ) (n : ℕ) → n ≤ length s → ((k : ℕ) → k < n → get_or s k 0 ≡ 0x20) → (n < length s → get_or s n 0 ≡ 0x20 → ⊥) → drop n s ≡ trimmed_front s
unfolding trimmed_front
front_at [] n h spaces other = drop_of_length-le [] (omega arith)
front_at (b ∷ s) zero h spaces other = rw (ne_eqb b 0x20 (other (omega arith)))
front_at (b ∷ s) (suc n) h spaces other =
    rw (eq-eqb b 0x20 (spaces 0 (omega arith))) (front_at s n (omega arith) (λ k g. spaces (suc k) (omega arith)) (λ g. other (omega arith)))

all_spaces : (s : List ℕ) → ((k : ℕ) → k < length s → get_or s k 0 ≡ 0x20) → all is_space s ≡ true
all_spaces [] spaces = refl
all_spaces (b ∷ s) spaces = rw (eq-eqb b 0x20 (spaces 0 (omega arith))) (all_spaces s (λ k g. spaces (suc k) (omega arith)))

not_all_spaces : (s : List ℕ) (n : ℕ) → n < length s → (get_or s n 0 ≡ 0x20 → ⊥) → all is_space s ≡ false
not_all_spaces [] n h other = absurd (omega arith)
not_all_spaces (b ∷ s) zero h other = rw (ne_eqb b 0x20 other)
not_all_spaces (b ∷ s) (suc n) h other = and_not_right (is_space b) (all is_space s) (not_all_spaces s n (omega arith) other)

-- the place from which on all bytes are spaces, and before which none is
pub back_at : (s : List ℕ) (n : ℕ) → n ≤ length s → ((k : ℕ) → n ≤ k → k < length s → get_or s k 0 ≡ 0x20) → (0 < n → get_or s (n - 1) 0 ≡ 0x20 → ⊥) → take n s ≡ trimmed_back s
unfolding trimmed_back
back_at [] zero h spaces other = refl
back_at [] (suc n) h spaces other = absurd (omega arith)
back_at (b ∷ s) zero h spaces other = rw (all_spaces (b ∷ s) (λ k g. spaces k (omega arith) g))
back_at (b ∷ s) (suc n) h spaces other =
    let same : suc n - 1 ≡ n = omega arith in
    let here : get_or (b ∷ s) n 0 ≡ 0x20 → ⊥ = rw same at (other (omega arith)) in
    rw (not_all_spaces (b ∷ s) n (omega arith) here)
    (ap (λ (t : List ℕ). b ∷ t) (back_at s n (omega arith) (λ k g l. spaces (suc k) (omega arith) (omega arith)) (λ g e. here (last n g e))))
  where
    last : (m : ℕ) → 0 < m → get_or s (m - 1) 0 ≡ 0x20 → get_or (b ∷ s) m 0 ≡ 0x20
    last zero g e = absurd (omega arith)
    last (suc m) g e = let same : suc m - 1 ≡ m = omega arith in rw same at e

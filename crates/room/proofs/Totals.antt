-- Sums over the lines, and the lines' claims.
-- Assumes nothing.
use mathlib.Core.Path.{◌≡◌, refl, sym}
use mathlib.Core.List.{List}
use Prim.Native.Nat.{ℕ, zero, suc, ◌+◌, ◌-◌, ◌<◌, ◌≤◌, max}
use native.Mathlib.Nat.{max-eq_right, le-max_left, le-max_right, max-le, le_trans}
use native.Mathlib.Omega.{arith}
use native.Mathlib.Decide.{ℕ_discrete}
use lib.ListN.{length, get_or, set}
use lib.Seq.{get_or-set_same, get_or-set_other}
use Rattle.memory.specs.Sizes.{lines}
use Rattle.room.specs.Room.{sum_to, claim, claims, raised}

pub sum_le : (n : ℕ) (f g : ℕ → ℕ) → ((k : ℕ) → k < n → f k ≤ g k) → sum_to n f ≤ sum_to n g
sum_le zero f g h = omega arith
sum_le (suc n) f g h = omega (arith, sum_le n f g (λ k q. h k (omega arith)), h n (omega arith))

pub sum_same : (n : ℕ) (f g : ℕ → ℕ) → ((k : ℕ) → k < n → f k ≡ g k) → sum_to n f ≡ sum_to n g
sum_same zero f g h = refl
sum_same (suc n) f g h = omega (arith, sum_same n f g (λ k q. h k (omega arith)), h n (omega arith))

-- two functions that differ at l, by a and b
pub sum_swap : (n : ℕ) (f g : ℕ → ℕ) (l a b : ℕ) → l < n → f l + a ≡ g l + b → ((k : ℕ) → k < n → (k ≡ l → ⊥) → f k ≡ g k) → sum_to n f + a ≡ sum_to n g + b
sum_swap zero f g l a b h e o = absurd (omega arith)
sum_swap (suc n) f g l a b h e o = elim (ℕ_discrete l n) [
  | yes q ↦
      let s : sum_to n f ≡ sum_to n g = sum_same n f g (λ k w. o k (omega arith) (omega arith)) in
      let r : f n + a ≡ g n + b = rw q at e in
      omega (arith, s, r)
  | no q ↦
      let s : sum_to n f + a ≡ sum_to n g + b = sum_swap n f g l a b (omega arith) e (λ k w x. o k (omega arith) x) in
      omega (arith, s, o n (omega arith) (λ x. q (sym x)))
]

-- a used count set, raised and lowered
module _ (u : List ℕ) (l n : ℕ) (long : length u ≡ lines) (line : l < lines) where
  pub raised_own : get_or (raised u l n) l 0 ≡ get_or u l 0 + n
  raised_own = get_or-set_same u l (get_or u l 0 + n) 0 (omega arith)

  pub raised_other : (k : ℕ) → (k ≡ l → ⊥) → get_or (raised u l n) k 0 ≡ get_or u k 0
  raised_other k h = get_or-set_other u l k (get_or u l 0 + n) 0 h

  pub lowered_own : get_or (set u l (get_or u l 0 - n)) l 0 ≡ get_or u l 0 - n
  lowered_own = get_or-set_same u l (get_or u l 0 - n) 0 (omega arith)

  pub lowered_other : (k : ℕ) → (k ≡ l → ⊥) → get_or (set u l (get_or u l 0 - n)) k 0 ≡ get_or u k 0
  lowered_other k h = get_or-set_other u l k (get_or u l 0 - n) 0 h

-- ---- claims

max_mono : (a b s : ℕ) → a ≤ b → max a s ≤ max b s
max_mono a b s h = max-le (le_trans h (le-max_left b s)) (le-max_right b s)

-- no used count larger, no claims larger
pub claims_le : (sh u v : List ℕ) → ((k : ℕ) → k < lines → get_or u k 0 ≤ get_or v k 0) → claims sh u ≤ claims sh v
unfolding claims
claims_le sh u v h = sum_le lines (claim sh u) (claim sh v) (λ k q. max_mono (get_or u k 0) (get_or v k 0) (get_or sh k 0) (h k q))

-- the used counts together are no more than the claims
pub used_le_claims : (sh u : List ℕ) → sum_to lines (λ k. get_or u k 0) ≤ claims sh u
unfolding claims
used_le_claims sh u = sum_le lines (λ k. get_or u k 0) (claim sh u) (λ k q. le-max_left (get_or u k 0) (get_or sh k 0))

-- within its own share a line's claim does not grow
pub claims_own_share : (sh u : List ℕ) (l n : ℕ) → length u ≡ lines → l < lines → get_or u l 0 + n ≤ get_or sh l 0 → claims sh (raised u l n) ≡ claims sh u
unfolding claims
claims_own_share sh u l n h lb s =
    sum_same lines (claim sh (raised u l n)) (claim sh u)
    (λ k q. elim (ℕ_discrete k l) [
      | yes e ↦
          let a : max (get_or u l 0 + n) (get_or sh l 0) ≡ get_or sh l 0 = max-eq_right s in
          let b : max (get_or u l 0) (get_or sh l 0) ≡ get_or sh l 0 = max-eq_right (omega arith) in
          rw (e, raised_own u l n h lb, a, b)
      | no e ↦ rw (raised_other u l n h lb k e)
    ])

-- a count that falls, but not below its share, frees as much
pub claims_lowered : (sh u : List ℕ) (l n : ℕ) → length u ≡ lines → l < lines → get_or sh l 0 + n ≤ get_or u l 0
    → claims sh (set u l (get_or u l 0 - n)) + n ≡ claims sh u + 0
unfolding claims
claims_lowered sh u l n h lb s =
    let own = lowered_own u l n h lb in
    sum_swap lines (claim sh (set u l (get_or u l 0 - n))) (claim sh u) l n 0 lb (rw own (omega arith))
    (λ k q x. rw (lowered_other u l n h lb k x))

max_more : (a n s : ℕ) → max (a + n) s ≤ max a s + n
max_more a n s = omega arith

-- a count that grows claims at most as much more
pub claims_raised_le : (sh u : List ℕ) (l n : ℕ) → length u ≡ lines → l < lines → claims sh (raised u l n) ≤ claims sh u + n
unfolding claims
claims_raised_le sh u l n h lb =
    let own = raised_own u l n h lb in
    let s = sum_swap lines (claim sh (raised u l n)) (claim sh u) l (claim sh u l) (claim sh (raised u l n) l) lb (omega arith)
    (λ k q x. rw (raised_other u l n h lb k x)) in
    let m : claim sh (raised u l n) l ≤ claim sh u l + n = rw own (max_more (get_or u l 0) n (get_or sh l 0)) in
    omega (arith, s, m)

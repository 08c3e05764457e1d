-- Laws of tests: of `&&` and `not`, and of a scan that stands at an index of a list.
-- Assumes nothing.
use mathlib.Core.Path.{◌≡◌, refl}
use mathlib.Core.Bool.{Bool, true, false, cond, ◌&&◌}
use mathlib.Core.List.{List, [], ◌∷◌, ◌++◌}
use Prim.Native.Nat.{ℕ, suc, ◌+◌, ◌≤◌, ◌<◌, zero-le, suc-le-suc}
use native.Mathlib.Numerals.{add-one}
use native.Mathlib.Omega.{arith}
use lib.Dec.{leb}
use lib.ListN.{length, get_or, drop, drop_of_length-le}
use lib.Seq.{drop-cons}
use borrow.Author.Tests.{le-leb, lt-leb}
use Rattle.memory.specs.Tests.{between, all, find}

-- what cannot be: a fact that makes 0 equal to 1 proves anything. Where a wrong case is met, `clash cc` closes it
pub clash : {A : Type 0} → ◌≡◌ {A = ℕ} 0 1 → A
clash z = absurd (omega arith)

-- both sides of `&&`, and one side that fails
pub and_left : (a b : Bool) → a && b ≡ true → a ≡ true
and_left true b e = refl
and_left false b e = e

pub and_right : (a b : Bool) → a && b ≡ true → b ≡ true
and_right true b e = e
and_right false b e = clash cc

pub and_both : (a b : Bool) → a ≡ true → b ≡ true → a && b ≡ true
and_both a b p q = rw (p, q)

pub and_not_right : (a b : Bool) → b ≡ false → a && b ≡ false
and_not_right true b e = e
and_not_right false b e = refl

-- each of six
pub six : (a b c e f g : Bool) → a && b && c && e && f && g ≡ true → (a ≡ true) × (b ≡ true) × (c ≡ true) × (e ≡ true) × (f ≡ true) × (g ≡ true)
six true true true true true true h = (refl, refl, refl, refl, refl, refl)
six true true true true true false h = clash (cc)
six true true true true false g h = clash (cc)
six true true true false f g h = clash (cc)
six true true false e f g h = clash (cc)
six true false c e f g h = clash (cc)
six false b c e f g h = clash (cc)

-- a number within two bounds, under them and over them
pub between_yes : (a e x : ℕ) → a ≤ x → x ≤ e → between a e x ≡ true
between_yes a e x h k = rw (le-leb a x h, le-leb x e k)

pub between_low : (a e x : ℕ) → x < a → between a e x ≡ false
between_low a e x h = rw (lt-leb a x h)

pub between_high : (a e x : ℕ) → e < x → between a e x ≡ false
between_high a e x h = and_not_right (leb a x) (leb x e) (lt-leb x e h)

-- a test is true or false
pub never_both : {A : Type 0} (b : Bool) → b ≡ true → b ≡ false → A
never_both b p q = clash cc

pub is_false : (b : Bool) → (b ≡ true → ⊥) → b ≡ false
is_false true n = absurd (n refl)
is_false false n = refl

-- every byte of two lists that are joined
pub all_append : (p : ℕ → Bool) (xs ys : List ℕ) → all p (xs ++ ys) ≡ all p xs && all p ys
all_append p [] ys = refl
all_append p (x ∷ xs) ys = by_first (p x) (all_append p xs ys)
  where
    by_first : (b : Bool) → all p (xs ++ ys) ≡ all p xs && all p ys → b && all p (xs ++ ys) ≡ b && all p xs && all p ys
    by_first true e = e
    by_first false e = refl

pub find_le : (p : ℕ → Bool) (s : List ℕ) → find p s ≤ length s
find_le p [] = zero-le
find_le p (x ∷ xs) = by_first (p x) (find_le p xs)
  where
    by_first : (b : Bool) → find p xs ≤ length xs → cond b 0 (suc (find p xs)) ≤ suc (length xs)
    by_first true h = zero-le
    by_first false h = suc-le-suc h

-- a scan that stands at i: it stops here, goes on, or has come to the end
module _ (p : ℕ → Bool) (s : List ℕ) (i : ℕ) where
  all_here : i < length s → all p (drop i s) ≡ p (get_or s i 0) && all p (drop (i + 1) s)
  all_here h = rw (add-one, drop-cons s i 0)

  find_here : i < length s → find p (drop i s) ≡ cond (p (get_or s i 0)) 0 (suc (find p (drop (i + 1) s)))
  find_here h = rw (add-one, drop-cons s i 0)

  pub all_stop : {b : Bool} → i < length s → p (get_or s i 0) ≡ false → all p (drop i s) ≡ b → false ≡ b
  all_stop h t e = let z = rw t at (all_here h) in cc

  pub all_next : {b : Bool} → i < length s → p (get_or s i 0) ≡ true → all p (drop i s) ≡ b → all p (drop (i + 1) s) ≡ b
  all_next h t e = let z = rw t at (all_here h) in cc

  pub all_done : {b : Bool} → length s ≤ i → all p (drop i s) ≡ b → true ≡ b
  all_done h e = rw (drop_of_length-le s) at e

  pub find_stop : {n : ℕ} → i < length s → p (get_or s i 0) ≡ true → i + find p (drop i s) ≡ n → i ≡ n
  find_stop h t e = let z = rw t at (find_here h) in omega arith

  pub find_next : {n : ℕ} → i < length s → p (get_or s i 0) ≡ false → i + find p (drop i s) ≡ n → i + 1 + find p (drop (i + 1) s) ≡ n
  find_next h t e = let z = rw t at (find_here h) in omega arith

  pub find_done : {n : ℕ} → length s ≤ i → i + find p (drop i s) ≡ n → i ≡ n
  find_done h e = let z = rw (drop_of_length-le s) at e in omega arith

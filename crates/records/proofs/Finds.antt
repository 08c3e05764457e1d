-- The place that std's `position` finds is the first byte that passes the test.
-- Assumes nothing.
use mathlib.Core.Path.{◌≡◌, refl}
use mathlib.Core.Bool.{Bool, true, false, cond, not}
use mathlib.Core.List.{List, [], ◌∷◌}
use Prim.Native.Nat.{ℕ, suc, ◌+◌, ◌≤◌}
use native.Mathlib.Omega.{arith}
use lib.Dec.{ltb}
use lib.ListN.{length}
use borrow.Author.Tests.{ltb-false}
use Rattle.std.specs.List.{position_or_len}
use Rattle.std.specs.Option.{unwrap_or}
use Rattle.std.proofs.Common.{Some, None}
use Rattle.memory.specs.Tests.{find}
use Rattle.memory.proofs.Tests.{find_le}

position_is : (p : ℕ → Bool) (s : List ℕ) → position_or_len p s ≡ find p s
position_is p [] = refl
position_is p (b ∷ s) = by_first (p b) (position_is p s)
  where
    by_first : (a : Bool) → position_or_len p s ≡ find p s → cond (not a) (1 + position_or_len p s) 0 ≡ cond a 0 (suc (find p s))
    by_first true e = refl
    by_first false e = omega arith

clamped : (k n : ℕ) → k ≤ n → unwrap_or (cond (ltb k n) (Some k) None) n ≡ k
clamped k n h = by_test (ltb k n) refl
  where
    by_test : (b : Bool) → ltb k n ≡ b → unwrap_or (cond b (Some k) None) n ≡ k
    by_test true e = refl
    by_test false e = omega (arith, ltb-false k n e)

pub position_find : (p : ℕ → Bool) (s : List ℕ) → unwrap_or (cond (ltb (position_or_len p s) (length s)) (Some (position_or_len p s)) None) (length s) ≡ find p s
position_find p s = rw (position_is p s) (clamped (find p s) (length s) (find_le p s))

-- Numbers that stand one behind the other, read and put.
-- Assumes nothing.
use mathlib.Core.Path.{◌≡◌, refl, sym, ap, ◌∙◌}
use mathlib.Core.List.{List, [], ◌∷◌, ◌++◌}
use Prim.Native.Nat.{ℕ, zero, suc, ◌+◌, ◌-◌, ◌≤◌, ◌<◌}
use native.Mathlib.Nat.{add-zero, zero-add}
use native.Mathlib.Omega.{arith}
use lib.ListN.{length, drop, get_or, set}
use lib.Seq.{sets, set-get_or, get_or-set_other}
use Rattle.memory.specs.Parts.{splice}
use Rattle.keeping.specs.Keeping.{numbers_from}

pub length_numbers : (ns : List ℕ) (at n : ℕ) → length (numbers_from ns at n) ≡ n
length_numbers ns at zero = refl
length_numbers ns at (suc n) = ap suc (length_numbers ns (suc at) n)

-- a number in front of them does not matter, nor many
pub read_past : (ns : List ℕ) (k v at n : ℕ) → k < at → numbers_from (set ns k v) at n ≡ numbers_from ns at n
read_past ns k v at zero h = refl
read_past ns k v at (suc n) h =
    let here : get_or (set ns k v) at 0 ≡ get_or ns at 0 = get_or-set_other ns k at v 0 (λ q. absurd (omega arith)) in
    rw (here, read_past ns k v (suc at) n (omega arith))

pub read_behind : (ns : List ℕ) (k : ℕ) (vs : List ℕ) (at n : ℕ) → k + length vs ≤ at → numbers_from (sets ns k vs) at n ≡ numbers_from ns at n
read_behind ns k [] at n h = refl
read_behind ns k (v ∷ vs) at n h = read_behind (set ns k v) (suc k) vs at n (omega arith) ∙ read_past ns k v at n (omega arith)

-- what stands there, put there again, changes nothing
pub put_again : (ns : List ℕ) (at n : ℕ) → sets ns at (numbers_from ns at n) ≡ ns
put_again ns at zero = refl
put_again ns at (suc n) = ap (λ (x : List ℕ). sets x (suc at) (numbers_from ns (suc at) n)) (set-get_or ns at 0) ∙ put_again ns (suc at) n

sets_append : (ns : List ℕ) (at : ℕ) (vs ws : List ℕ) → sets ns at (vs ++ ws) ≡ sets (sets ns at vs) (at + length vs) ws
sets_append ns at [] ws = rw (add-zero at)
sets_append ns at (v ∷ vs) ws =
    let next : at + suc (length vs) ≡ suc at + length vs = omega arith in
    rw next (sets_append (set ns at v) (suc at) vs ws)

drop_numbers : (ns : List ℕ) (at n k : ℕ) → k ≤ n → drop k (numbers_from ns at n) ≡ numbers_from ns (at + k) (n - k)
drop_numbers ns at n zero h = let all : n - 0 ≡ n = omega arith in rw (add-zero at, all)
drop_numbers ns at zero (suc k) h = absurd (omega arith)
drop_numbers ns at (suc n) (suc k) h =
    let next : at + suc k ≡ suc at + k = omega arith in
    let left : suc n - suc k ≡ n - k = omega arith in
    rw (next, left) (drop_numbers ns (suc at) n k (omega arith))

-- bytes laid over the start of what stands there, put there, are the bytes put there
pub put_over_law : (ns : List ℕ) (at n : ℕ) (vs : List ℕ) → length vs ≤ n → sets ns at (splice (numbers_from ns at n) 0 vs) ≡ sets ns at vs
unfolding splice
put_over_law ns at n vs h =
    rw (zero-add, drop_numbers ns at n (length vs) h) (sets_append ns at vs (numbers_from ns (at + length vs) (n - length vs))
    ∙ ap (sets (sets ns at vs) (at + length vs)) (sym (read_behind ns at vs (at + length vs) (n - length vs) (omega arith)))
    ∙ put_again (sets ns at vs) (at + length vs) (n - length vs))

-- A run over all records gives every owner.
-- Assumes nothing.
use Rattle.std.specs.Prelude.{None, Option, Some}
use Rattle.kinds.specs.declared.Kind.{Kind}
use mathlib.Core.Path.{◌≡◌, refl, sym, ap, ◌∙◌}
use mathlib.Core.List.{List, ◌++◌}
use Prim.Native.Nat.{ℕ, zero, suc, ◌+◌, ◌-◌, ◌<◌, ◌≤◌}
use native.Mathlib.Omega.{arith}
use native.Mathlib.Nat.{add-suc, suc-add, add-zero, zero-add}
use native.Mathlib.Decide.{dec_lt}
use lib.ListN.{length, get_or, drop, get_or-append}
use lib.Seq.{sets, sets-eq, length-sets, ext_get_or, get_or-append-add, get_or-drop}
use Rattle.kinds.specs.Kinds.{kind_of}
use Rattle.owner.specs.Inner.Depths.{depth_by, depth_of}
use Rattle.owner.specs.Inner.Nearest.{nearest_owner, nearest_from, nearest_owners, Ran}

by_some : (x : Option Kind) → 1 ≤ depth_by x
by_some (Some k) = omega arith
by_some None = omega arith

pub depth_some : (b : ℕ) → 1 ≤ depth_of b
unfolding depth_of
depth_some b = by_some (kind_of b)

pub length_owners : (ts : List ℕ) (n c : ℕ) → length (nearest_from ts n c) ≡ c
length_owners ts n zero = refl
length_owners ts n (suc c) = ap suc (length_owners ts (suc n) c)

owners_at : (ts : List ℕ) (n c k : ℕ) → k < c → get_or (nearest_from ts n c) k 0 ≡ nearest_owner ts (n + k)
owners_at ts n zero k h = absurd (omega arith)
owners_at ts n (suc c) zero h = rw add-zero
owners_at ts n (suc c) (suc k) h = owners_at ts (suc n) c k (omega arith) ∙ ap (nearest_owner ts) (suc-add n k ∙ sym (add-suc n k))

-- a list whose front is vs and whose rest is l's is l with vs stored from 0 on
pub stored : (l l' vs : List ℕ) → length l' ≡ length l → length vs ≤ length l → ((k : ℕ) → k < length vs → get_or l' k 0 ≡ get_or vs k 0)
    → ((k : ℕ) → length vs ≤ k → get_or l' k 0 ≡ get_or l k 0) → l' ≡ sets l 0 vs
stored l l' vs n h front back = ext_get_or 0 l' (sets l 0 vs) (n ∙ sym (length-sets l 0 vs)) each
  where
    is : sets l 0 vs ≡ vs ++ drop (length vs) l
    is = sets-eq vs l 0 (omega arith) ∙ rw zero-add

    each : (k : ℕ) → k < length l' → get_or l' k 0 ≡ get_or (sets l 0 vs) k 0
    each k q =
        elim (dec_lt k (length vs)) [
          | yes p ↦ front k p ∙ sym (ap (λ (z : List ℕ). get_or z k 0) is ∙ get_or-append vs (drop (length vs) l) 0 k p)
          | no p ↦
              let r : length vs + (k - length vs) ≡ k = omega arith in
              let b : get_or (vs ++ drop (length vs) l) (length vs + (k - length vs)) 0 ≡ get_or l (length vs + (k - length vs)) 0 =
              get_or-append-add vs (drop (length vs) l) (k - length vs) 0 ∙ get_or-drop (length vs) l (k - length vs) 0 in
              back k (omega arith) ∙ sym (ap (λ (z : List ℕ). get_or z k 0) is ∙ (rw r at b))
        ]

pub whole : (ts os os' : List ℕ) (m : ℕ) → length os' ≡ length os → length ts ≤ length os → Ran ts os os' 0 0 0 m → os' ≡ sets os 0 (nearest_owners ts)
whole ts os os' m n h r =
    let len : length (nearest_owners ts) ≡ length ts = length_owners ts 0 (length ts) in
    let all : m ≡ length ts = elim (dec_lt m (length ts)) [ yes p ↦ absurd (omega (arith, depth_some (get_or ts m 0), r.stops p)) | no p ↦ omega (arith, r.within) ] in
    stored os os' (nearest_owners ts) n (omega arith)
    (λ k p. r.done k (omega arith) (omega arith) ∙ sym (owners_at ts 0 (length ts) k (omega arith) ∙ ap (nearest_owner ts) (zero-add k)))
    (λ k p. r.behind k (omega arith))

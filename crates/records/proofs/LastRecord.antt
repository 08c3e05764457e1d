-- The bytes behind the last CR of a text, as a scan from the end finds them.
-- Assumes nothing.
use mathlib.Core.Path.{◌≡◌, refl, ap, sym, ◌∙◌}
use mathlib.Core.Bool.{Bool, true, false, cond, ◌&&◌}
use mathlib.Core.List.{List, [], ◌∷◌, ◌++◌}
use Prim.Native.Nat.{ℕ, suc, ◌-◌, ◌<◌, ◌≤◌, zero-le}
use native.Mathlib.Nat.{add-zero}
use native.Mathlib.Omega.{arith}
use native.Mathlib.Decide.{dec_lt}
use lib.Dec.{eqb}
use lib.ListN.{length, get_or, take, drop, length-drop, take-append-drop, get_or-eq_default}
use lib.Seq.{drop-cons, get_or-drop, get_or-take, length-take-le}
use borrow.Author.Tests.{ne_eqb}
use Rattle.memory.specs.Tests.{all}
use Rattle.memory.proofs.Tests.{and_not_right, all_append, is_false}
use Rattle.characters.specs.Control.{cr}
use Rattle.records.specs.Records.{is_not_cr, behind_last_cr, begins_with_l}
use Rattle.records.specs.Inner.Starts.{last_start}

-- a text with no CR is all behind it
pub lacks_behind : (s : List ℕ) → all is_not_cr s ≡ true → behind_last_cr s ≡ s
lacks_behind [] e = refl
lacks_behind (b ∷ s) e = rw e

-- what is joined to a text decides, where it has a CR; and where not, it stands behind what stood behind the last CR
pub behind_join_has : (x y : List ℕ) → all is_not_cr y ≡ false → behind_last_cr (x ++ y) ≡ behind_last_cr y
behind_join_has [] y e = refl
behind_join_has (b ∷ x) y e =
    let rest : all is_not_cr (x ++ y) ≡ false = all_append is_not_cr x y ∙ and_not_right (all is_not_cr x) (all is_not_cr y) e in
    rw (and_not_right (is_not_cr b) (all is_not_cr (x ++ y)) rest) (behind_join_has x y e)

pub behind_join_lacks : (x y : List ℕ) → all is_not_cr y ≡ true → behind_last_cr (x ++ y) ≡ behind_last_cr x ++ y
behind_join_lacks [] y e = lacks_behind y e
behind_join_lacks (b ∷ x) y e =
    let rest : all is_not_cr (x ++ y) ≡ all is_not_cr x = all_append is_not_cr x y ∙ rw e (and_true (all is_not_cr x)) in
    rw rest (by_first (is_not_cr b && all is_not_cr x) (behind_join_lacks x y e))
  where
    and_true : (a : Bool) → a && true ≡ a
    and_true true = refl
    and_true false = refl

    by_first : (a : Bool) → behind_last_cr (x ++ y) ≡ behind_last_cr x ++ y → cond a (b ∷ x ++ y) (behind_last_cr (x ++ y)) ≡ cond a (b ∷ x) (behind_last_cr x) ++ y
    by_first true h = refl
    by_first false h = h

pub behind_cr : (x y : List ℕ) → behind_last_cr (x ++ cr ∷ y) ≡ behind_last_cr y
behind_cr x y = behind_join_has x (cr ∷ y) refl

-- what stands behind the last CR is the rest from its start on
behind_le : (s : List ℕ) → length (behind_last_cr s) ≤ length s
behind_le [] = zero-le
behind_le (b ∷ s) = by_first (is_not_cr b && all is_not_cr s) (behind_le s)
  where
    by_first : (a : Bool) → length (behind_last_cr s) ≤ length s → length (cond a (b ∷ s) (behind_last_cr s)) ≤ suc (length s)
    by_first true h = omega arith
    by_first false h = omega arith

pub behind_drop : (s : List ℕ) → drop (last_start s) s ≡ behind_last_cr s
behind_drop [] = refl
behind_drop (b ∷ s) = by_first (is_not_cr b && all is_not_cr s) (behind_drop s)
  where
    by_first : (a : Bool) → drop (last_start s) s ≡ behind_last_cr s
        → drop (suc (length s) - length (cond a (b ∷ s) (behind_last_cr s))) (b ∷ s) ≡ cond a (b ∷ s) (behind_last_cr s)
    by_first true h = let n : suc (length s) - suc (length s) ≡ 0 = omega arith in rw n
    by_first false h =
        let n : suc (length s) - length (behind_last_cr s) ≡ suc (last_start s) = omega (arith, behind_le s) in
        rw n h

pub start_le : (s : List ℕ) → last_start s ≤ length s
start_le s = omega arith

-- the start is 0 exactly where there is no CR
pub start_zero : (s : List ℕ) → all is_not_cr s ≡ true → last_start s ≡ 0
start_zero s e = rw (lacks_behind s e) (omega arith)

pub start_some : (s : List ℕ) → all is_not_cr s ≡ false → 0 < last_start s
start_some s e = let k : length (behind_last_cr s) < length s = shorter s e in omega arith
  where
    shorter : (s : List ℕ) → all is_not_cr s ≡ false → length (behind_last_cr s) < length s
    shorter [] e = let z : ◌≡◌ {A = ℕ} 0 1 = cc in absurd (omega arith)
    shorter (b ∷ s) e = rw e (omega (arith, behind_le s))

pub start_has : (s : List ℕ) → 0 < last_start s → all is_not_cr s ≡ false
start_has s h = is_false (all is_not_cr s) (λ e. let z : last_start s ≡ 0 = start_zero s e in omega arith)

pub start_lacks : (s : List ℕ) → last_start s ≡ 0 → all is_not_cr s ≡ true
start_lacks s h = by_all (all is_not_cr s) refl
  where
    by_all : (a : Bool) → all is_not_cr s ≡ a → all is_not_cr s ≡ true
    by_all true e = e
    by_all false e = let z : 0 < last_start s = start_some s e in absurd (omega arith)

-- a scan from the end that stands at i
pub scan_stop : (s : List ℕ) (i : ℕ) → 0 < i → i ≤ length s → get_or s (i - 1) 0 ≡ cr → all is_not_cr (drop i s) ≡ true → i ≡ last_start s
scan_stop s i h k e f =
    let step : drop (i - 1) s ≡ get_or s (i - 1) 0 ∷ drop (suc (i - 1)) s = drop-cons s (i - 1) 0 (omega arith) in
    let next : suc (i - 1) ≡ i = omega arith in
    let split : take (i - 1) s ++ cr ∷ drop i s ≡ s =
    ap (λ (l : List ℕ). take (i - 1) s ++ l) (sym (step ∙ rw (next, e))) ∙ take-append-drop (i - 1) s in
    let rest : behind_last_cr s ≡ drop i s = sym (ap behind_last_cr split) ∙ behind_cr (take (i - 1) s) (drop i s) ∙ lacks_behind (drop i s) f in
    rw (rest, length-drop) (omega arith)

pub scan_on : (s : List ℕ) (i : ℕ) → 0 < i → i ≤ length s → (get_or s (i - 1) 0 ≡ cr → ⊥) → all is_not_cr (drop i s) ≡ true → all is_not_cr (drop (i - 1) s) ≡ true
scan_on s i h k n f =
    let next : suc (i - 1) ≡ i = omega arith in
    let step : drop (i - 1) s ≡ get_or s (i - 1) 0 ∷ drop i s = drop-cons s (i - 1) 0 (omega arith) ∙ rw next in
    rw step (rw (ne_eqb (get_or s (i - 1) 0) cr n) f)

-- the byte that code reads where the last record starts: its first byte, or its CR where it is empty
pub first_byte : (s : List ℕ) (last start : ℕ) → last < length s → get_or s last 0 ≡ cr → start ≡ last_start (take last s)
    → eqb (get_or s start 0) 0x4c ≡ begins_with_l (behind_last_cr (take last s))
first_byte s last start h e k =
    let long : length (take last s) ≡ last = length-take-le last s (omega arith) in
    let le : start ≤ last = omega (arith, start_le (take last s)) in
    let there : get_or (behind_last_cr (take last s)) 0 0 ≡ get_or (take last s) start 0 =
    ap (λ (l : List ℕ). get_or l 0 0) (sym (behind_drop (take last s)) ∙ ap (λ (n : ℕ). drop n (take last s)) (sym k)) ∙ get_or-drop start (take last s) 0 0 ∙ ap (λ (n : ℕ). get_or (take last s) n 0) (add-zero start) in
    elim (dec_lt start last) [
      | yes q ↦ rw (there, get_or-take last s start 0 q)
      | no q ↦
          let same : start ≡ last = omega arith in
          let le : length (take last s) ≤ start = omega arith in
          let past : get_or (take last s) start 0 ≡ 0 = get_or-eq_default (take last s) 0 le in
          rw (there, past, same, e)
    ]

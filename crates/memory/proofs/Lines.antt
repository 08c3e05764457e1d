-- Memory of equal parts, one for each line: part i of width w starts at i * w.
-- Assumes nothing.
use mathlib.Core.Path.{◌≡◌, refl, sym, ◌∙◌, ap₂}
use mathlib.Core.Logic.{◌≢◌}
use mathlib.Core.List.{List, [], ◌∷◌, ◌++◌}
use Prim.Native.Nat.{ℕ, zero, suc, ◌+◌, ◌*◌, ◌≤◌, ◌<◌}
use native.Mathlib.Nat.{zero-mul, suc-mul, add_comm, mul-le-mul_right}
use native.Mathlib.Omega.{arith}
use native.Mathlib.Decide.{dec_lt}
use lib.ListN.{length, take, drop, length-drop, take-append-drop}
use lib.Seq.{drop-drop}
use Rattle.memory.specs.Parts.{part, splice}
use Rattle.memory.proofs.Parts.{part_start, part_before, part_behind}

-- part i ends where the next starts, within a memory of n parts
pub part_end : (w i n : ℕ) → i < n → i * w + w ≤ n * w
part_end w i n h = let above : suc i * w ≤ n * w = mul-le-mul_right w h in rw suc-mul at above

module _ {A : Type 0} (w : ℕ) where
  -- a write within part i leaves part j
  pub part_elsewhere : (d : List A) (i j k : ℕ) (s : List A) → i ≢ j → i * w + w ≤ length d → k + length s ≤ w
      → part (splice d (i * w + k) s) (j * w) w ≡ part d (j * w) w
  part_elsewhere d i j k s n h g = elim (dec_lt i j) [
    | yes q ↦
        let above : i * w + w ≤ j * w = part_end w i j q in
        part_behind d (i * w + k) s (omega arith) (j * w) w (omega arith)
    | no q ↦
        let below : j * w + w ≤ i * w = part_end w j i (omega arith) in
        part_before d (i * w + k) s (omega arith) (j * w) w (omega arith)
  ]

  first : (d : List A) → part d (0 * w) w ≡ take w d
  first d = rw (zero-mul w) (part_start d w)

  others : (d : List A) (i : ℕ) → part d (suc i * w) w ≡ part (drop w d) (i * w) w
  unfolding part
  others d i = rw (drop-drop (i * w) w d, suc-mul i w, add_comm (i * w) w)

  no_bytes : (x y : List A) → length x ≡ 0 → length y ≡ 0 → x ≡ y
  no_bytes [] [] g h = refl
  no_bytes [] (b ∷ y) g h = absurd (omega arith)
  no_bytes (a ∷ x) y g h = absurd (omega arith)

  -- two memories of n parts are equal where their parts are
  pub equal_parts : (n : ℕ) (x y : List A) → length x ≡ n * w → length y ≡ n * w → ((i : ℕ) → i < n → part x (i * w) w ≡ part y (i * w) w) → x ≡ y
  equal_parts zero x y g h e = no_bytes x y (rw zero-mul at g) (rw zero-mul at h)
  equal_parts (suc n) x y g h e =
      let g₁ = rw suc-mul at g in
      let h₁ = rw suc-mul at h in
      let front : take w x ≡ take w y = sym (first x) ∙ e 0 (omega arith) ∙ first y in
      let rest : drop w x ≡ drop w y =
      equal_parts n (drop w x) (drop w y) (rw length-drop (omega arith)) (rw length-drop (omega arith))
      (λ i q. sym (others x i) ∙ e (suc i) (omega arith) ∙ others y i) in
      sym (take-append-drop w x) ∙ ap₂ ◌++◌ front rest ∙ take-append-drop w y

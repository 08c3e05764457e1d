-- Laws of `part` and `splice`. Two say what a splice does to lists that are joined; the others follow from them.
-- Assumes nothing.
use mathlib.Core.Path.{◌≡◌, refl, sym, ap, ◌∙◌}
use mathlib.Core.List.{List, [], ◌∷◌, ◌++◌, append_assoc}
use Prim.Native.Nat.{ℕ, zero, suc, ◌+◌, ◌-◌, ◌≤◌, ◌<◌}
use native.Mathlib.Nat.{add_assoc, add-zero, zero-add, sub-zero, zero-sub}
use native.Mathlib.Numerals.{add-one}
use native.Mathlib.Omega.{arith}
use lib.ListN.{length, take, drop, set, length-append, length-take, length-drop, take-append-drop}
use lib.Seq.{take-append-le, drop-append-le, take-append-add, drop-append-add, take_at, drop_at, take-take, drop-drop, take-add, take-nil, length-take-le, set_split, sets, sets-eq}
use Rattle.memory.specs.Parts.{part, splice}

-- a take and then a drop, the other way round
pub drop_take : {A : Type 0} (k n : ℕ) (d : List A) → drop k (take n d) ≡ take (n - k) (drop k d)
drop_take zero n d = rw (sub-zero n)
drop_take (suc k) zero d = rw (zero-sub (suc k))
drop_take (suc k) (suc n) [] = sym (take-nil (suc n - suc k))
drop_take (suc k) (suc n) (x ∷ d) =
    let e : suc n - suc k ≡ n - k = omega arith in
    rw e (drop_take k n d)

-- a later place of a list, reached in two steps
drop_later : {A : Type 0} (d : List A) (c k : ℕ) → c ≤ k → drop k d ≡ drop (k - c) (drop c d)
drop_later d c k h =
    let n : c + (k - c) ≡ k = omega arith in
    sym (drop-drop (k - c) c d ∙ ap (λ (j : ℕ). drop j d) n)

-- two lists that agree from c on agree from any later place on
pub from_later : {A : Type 0} (x y : List A) (c k : ℕ) → c ≤ k → drop c x ≡ drop c y → drop k x ≡ drop k y
from_later x y c k h e = rw (drop_later x c k h, drop_later y c k h, e)

module _ {A : Type 0} where
  pub length_part : (d : List A) (at n : ℕ) → at + n ≤ length d → length (part d at n) ≡ n
  unfolding part
  length_part d at n h = simp (length-take, length-drop) (omega arith)

  part_spelt : (d : List A) (at n : ℕ) → take n (drop at d) ≡ part d at n
  unfolding part
  part_spelt d at n = refl

  splice_is : (d : List A) (at : ℕ) (s : List A) → splice d at s ≡ take at d ++ (s ++ drop (at + length s) d)
  unfolding splice
  splice_is d at s = refl

  pub part_start : (d : List A) (n : ℕ) → part d 0 n ≡ take n d
  unfolding part
  part_start d n = refl

  -- a part that is lent from `at` to `at + n`
  pub part_lent : (d : List A) (at n : ℕ) → take (at + n - at) (drop at d) ≡ part d at n
  unfolding part
  part_lent d at n = let e : at + n - at ≡ n = omega arith in rw e

  -- a part of a part, and of the first n
  pub part_part : (d : List A) (at n k m : ℕ) → k + m ≤ n → part (part d at n) k m ≡ part d (at + k) m
  unfolding part
  part_part d at n k m h =
      let f : m ≤ n - k = omega arith in
      rw (drop_take k n (drop at d), drop-drop k at d, take-take)

  pub part_take : (d : List A) (n k m : ℕ) → k + m ≤ n → part (take n d) k m ≡ part d k m
  part_take d n k m h = rw (← part_start d n, part_part d 0 n k m h, zero-add k)

  -- two parts one behind the other
  pub part_add : (d : List A) (at n m : ℕ) → part d at (n + m) ≡ part d at n ++ part d (at + n) m
  unfolding part
  part_add d at n m = rw (take-add, drop-drop)

  -- what is joined to a list does not matter to its parts
  pub part_append_left : (x y : List A) (at n : ℕ) → at + n ≤ length x → part (x ++ y) at n ≡ part x at n
  unfolding part
  part_append_left x y at n h =
      let p : at ≤ length x = omega arith in
      let q : n ≤ length (drop at x) = rw length-drop (omega arith) in
      rw (drop-append-le at x y, take-append-le)

  pub part_append_right : (x y : List A) (at n : ℕ) → part (x ++ y) (length x + at) n ≡ part y at n
  unfolding part
  part_append_right x y at n = rw drop-append-add

  -- a splice into the first of two lists that are joined, and into the second
  pub splice_append_left : (x y : List A) (at : ℕ) (s : List A) → at + length s ≤ length x → splice (x ++ y) at s ≡ splice x at s ++ y
  unfolding splice
  splice_append_left x y at s h =
      let p : at ≤ length x = omega arith in
      rw (take-append-le at x y, drop-append-le (at + length s) x y) (simp append_assoc)

  pub splice_append_right : (x y : List A) (at : ℕ) (s : List A) → splice (x ++ y) (length x + at) s ≡ x ++ splice y at s
  unfolding splice
  splice_append_right x y at s = rw (take-append-add, add_assoc, drop-append-add) (simp append_assoc)

  pub length_splice : (d : List A) (at : ℕ) (s : List A) → at + length s ≤ length d → length (splice d at s) ≡ length d
  unfolding splice
  length_splice d at s h = simp (length-append, length-take, length-drop) (omega arith)

  pub splice_nil : (d : List A) (at : ℕ) → splice d at [] ≡ d
  unfolding splice
  splice_nil d at = rw (add-zero at) (take-append-drop at d)

  -- what stands in front of a splice, in it and behind it
  module _ (d : List A) (at : ℕ) (s : List A) (h : at + length s ≤ length d) where
    front_long : length (take at d) ≡ at
    front_long = length-take-le at d (omega arith)

    pub take_splice : (n : ℕ) → n ≤ at → take n (splice d at s) ≡ take n d
    unfolding splice
    take_splice n k =
        let p : n ≤ length (take at d) = rw front_long k in
        rw (take-append-le n (take at d) (s ++ drop (at + length s) d), take-take n at d k)

    behind : drop (at + length s) (splice d at s) ≡ drop (at + length s) d
    unfolding splice
    behind =
        let n : length (take at d ++ s) ≡ at + length s = rw (length-append, front_long) in
        rw (← append_assoc (take at d) s (drop (at + length s) d)) (drop_at (take at d ++ s) (drop (at + length s) d) (at + length s) n)

    pub drop_splice : (k : ℕ) → at + length s ≤ k → drop k (splice d at s) ≡ drop k d
    drop_splice k g = from_later (splice d at s) d (at + length s) k g behind

    -- what was written is read back
    pub part_splice : part (splice d at s) at (length s) ≡ s
    unfolding part splice
    part_splice =
        rw (drop_at (take at d) (s ++ drop (at + length s) d) at front_long)
        (take_at s (drop (at + length s) d) (length s) refl)

    -- the bytes up to its end
    pub take_through : take (at + length s) (splice d at s) ≡ take at d ++ s
    take_through = take-add at (length s) (splice d at s) ∙ rw (take_splice at (omega arith)) (ap (λ (l : List A). take at d ++ l) (part_spelt (splice d at s) at (length s) ∙ part_splice))

    -- a part that ends before it, and one that starts behind it, are unchanged
    pub part_before : (k m : ℕ) → k + m ≤ at → part (splice d at s) k m ≡ part d k m
    part_before k m g = sym (part_take (splice d at s) at k m g) ∙ ap (λ (l : List A). part l k m) (take_splice at (omega arith)) ∙ part_take d at k m g

    pub part_behind : (k m : ℕ) → at + length s ≤ k → part (splice d at s) k m ≡ part d k m
    unfolding part
    part_behind k m g = ap (take m) (drop_splice k g)

    -- the first n bytes, with the splice inside them
    pub take_around : (n : ℕ) → at + length s ≤ n → n ≤ length d → take n (splice d at s) ≡ splice (take n d) at s
    take_around n g f =
        let long : length (take n d) ≡ n = length-take-le n d f in
        let in_front_law : at + length s ≤ length (take n d) = rw long g in
        let split : splice d at s ≡ splice (take n d) at s ++ drop n d =
        ap (λ (l : List A). splice l at s) (sym (take-append-drop n d)) ∙ splice_append_left (take n d) (drop n d) at s in_front_law in
        rw split (take_at (splice (take n d) at s) (drop n d) n (length_splice (take n d) at s in_front_law ∙ long))

  -- a write behind the first k bytes
  pub splice_from : (d : List A) (k at : ℕ) (s : List A) → k ≤ length d → splice d (k + at) s ≡ take k d ++ splice (drop k d) at s
  splice_from d k at s h =
      ap (λ (l : List A). splice l (k + at) s) (sym (take-append-drop k d))
      ∙ ap (λ (n : ℕ). splice (take k d ++ drop k d) (n + at) s) (sym (length-take-le k d h))
      ∙ splice_append_right (take k d) (drop k d) at s

  pub drop_around : (d : List A) (k at : ℕ) (s : List A) → k ≤ length d → drop k (splice d (k + at) s) ≡ splice (drop k d) at s
  drop_around d k at s h = rw (splice_from d k at s h) (drop_at (take k d) (splice (drop k d) at s) k (length-take-le k d h))

  -- a write within a part
  pub part_around : (d : List A) (at n k : ℕ) (s : List A) → at + n ≤ length d → k + length s ≤ n → part (splice d (at + k) s) at n ≡ splice (part d at n) k s
  unfolding part
  part_around d at n k s h g =
      let room : n ≤ length (drop at d) = rw length-drop (omega arith) in
      let fits : k + length s ≤ length (drop at d) = omega arith in
      rw (drop_around d at k s (omega arith)) (take_around (drop at d) k s fits n g room)

  -- writes to different parts commute
  pub splice_comm : (d : List A) (at : ℕ) (s : List A) (bt : ℕ) (t : List A) → at + length s ≤ bt → bt + length t ≤ length d
      → splice (splice d at s) bt t ≡ splice (splice d bt t) at s
  splice_comm d at s bt t h g =
      let fits : at + length s ≤ length d = omega arith in
      let long : length (take bt d) ≡ bt = length-take-le bt d (omega arith) in
      let in_front_law : at + length s ≤ length (take bt d) = rw long h in
      splice_is (splice d at s) bt t
      ∙ rw (take_around d at s fits bt h (omega arith), drop_splice d at s fits (bt + length t) (omega arith))
      (sym (ap (λ (l : List A). splice l at s) (splice_is d bt t) ∙ splice_append_left (take bt d) (t ++ drop (bt + length t) d) at s in_front_law))

  -- two writes, the second behind the first or in front of it, are one
  pub splice_join : (d : List A) (at : ℕ) (s t : List A) → at + length s + length t ≤ length d → splice (splice d at s) (at + length s) t ≡ splice d at (s ++ t)
  splice_join d at s t h =
      let fits : at + length s ≤ length d = omega arith in
      let through : take (at + length s) (splice d at s) ≡ take at d ++ s =
      take-add at (length s) (splice d at s) ∙ rw (take_splice d at s fits at (omega arith)) (ap (λ (l : List A). take at d ++ l) (part_spelt (splice d at s) at (length s) ∙ part_splice d at s fits)) in
      let past : at + length (s ++ t) ≡ at + length s + length t = rw length-append (omega arith) in
      rw (splice_is (splice d at s) (at + length s) t, splice_is d at (s ++ t), through, drop_splice d at s fits (at + length s + length t) (omega arith), past) (simp append_assoc)

  pub splice_join_front : (d : List A) (at : ℕ) (s t : List A) → at + length s + length t ≤ length d → splice (splice d (at + length s) t) at s ≡ splice d at (s ++ t)
  splice_join_front d at s t h = sym (splice_comm d at s (at + length s) t (omega arith) h) ∙ splice_join d at s t h

  -- one byte stored is a write of one byte, and a part's byte is the memory's
  pub set_splice : (d : List A) (i : ℕ) (v : A) → i < length d → set d i v ≡ splice d i (v ∷ [])
  unfolding splice
  set_splice d i v h = rw (set_split d i v h, add-one i)

  -- a byte stored behind a write is one more written
  pub set_behind : (d : List A) (at : ℕ) (s : List A) (v : A) → at + length s < length d → set (splice d at s) (at + length s) v ≡ splice d at (s ++ (v ∷ []))
  set_behind d at s v h =
      let long : length (splice d at s) ≡ length d = length_splice d at s (omega arith) in
      set_splice (splice d at s) (at + length s) v (omega arith) ∙ splice_join d at s (v ∷ []) (omega arith)

  -- single stores one behind the other are one write
  pub sets_splice : (d : List A) (at : ℕ) (s : List A) → at + length s ≤ length d → sets d at s ≡ splice d at s
  unfolding splice
  sets_splice d at s h = sets-eq s d at h ∙ append_assoc (take at d) s (drop (at + length s) d)

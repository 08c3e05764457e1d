-- The serial form of a history is the history in another order: nothing is lost and nothing added, each line's events keep their order,
-- the last events of the stretches and the takings keep theirs, and each stretch stands undivided.
-- Assumes nothing.
use mathlib.Core.Path.{◌≡◌, refl, sym, ap}
use mathlib.Core.Bool.{Bool, true, false}
use mathlib.Core.List.{List, [], ◌∷◌, ◌++◌, append_assoc, append-nil}
use Prim.Native.Nat.{ℕ, ◌+◌, ◌<◌}
use native.Mathlib.Omega.{arith}
use native.Mathlib.Decide.{ℕ_discrete}
use borrow.Author.Tests.{eq-eqb, ne_eqb}
use Rattle.serial.specs.Serial.{Item, event, taking, items, Every, count, OrderOf, upd, stretch, out, left, rests, serial, serialize}
use Rattle.serial.specs.Kept.{only, is_of, is_end, Part, finished, took, Undecided, Proper, items_of, Whole, Rearranged}
use Rattle.serial.specs.Inner.Machine.{OnLine}
use Rattle.serial.proofs.Updates.{upd_all, upd_own, upd_other, stretch_append}
use Rattle.serial.proofs.Lists.{only_append, count_append, mine, own_stretch, other_stretch, rests_own, rests_count}

-- ---- each line's events, in their order

module _ {K N A : Type 0} (i : ℕ) where
  one : (pending : ℕ → List (K × A)) (e : Item K N) (a : A) (d : Bool)
      → only (mine i) (out pending e a d) ++ stretch i (left pending e a d i) ≡ stretch i (pending i) ++ only (mine i) ((e, a) ∷ [])
  one pending (event l k) a true = elim (ℕ_discrete l i) [
    | yes q ↦ rw (q, own_stretch) (simp (upd_own, eq-eqb i i refl, stretch_append, append-nil))
    | no n ↦ simp (other_stretch {K = K} {N = N} {A = A} i l, upd_other pending l [] i (λ e. n (sym e)), ne_eqb l i n, append-nil)
  ]
  one pending (event l k) a false = elim (ℕ_discrete l i) [
    | yes q ↦ rw q (simp (upd_own, eq-eqb i i refl, stretch_append))
    | no n ↦ simp (upd_other pending l (pending l ++ ((k, a) ∷ [])) i (λ e. n (sym e)), ne_eqb l i n, append-nil)
  ]
  one pending (taking l n) a d = sym (append-nil _)

  -- what an item puts out and what is pending behind it are what was pending and the item
  pub shift : (pending : ℕ → List (K × A)) (e : Item K N) (a : A) (d : Bool) (xs : List (Item K N × A))
      → only (mine i) (out pending e a d) ++ (stretch i (left pending e a d i) ++ only (mine i) xs)
      ≡ stretch i (pending i) ++ only (mine i) ((e, a) ∷ xs)
  shift pending e a d xs =
      let o : List (Item K N × A) = out pending e a d in
      cc (
        append_assoc (only (mine i) o) (stretch i (left pending e a d i)) (only (mine i) xs),
        one pending e a d,
        append_assoc (stretch i (pending i)) (only (mine i) ((e, a) ∷ [])) (only (mine i) xs),
        only_append (mine i) ((e, a) ∷ []) xs,
      )

  module _ (decides : A → Bool) (lines : ℕ) (order : List ℕ) (each : OrderOf lines order) (h : i < lines) where
    serial_line : (xs : List (Item K N × A)) (pending : ℕ → List (K × A))
        → only (mine i) (serial decides order pending xs) ≡ stretch i (pending i) ++ only (mine i) xs
    serial_line [] pending = rw append-nil (rests_own i pending order (each.once i h))
    serial_line (x ∷ xs) pending =
        let after : ℕ → List (K × A) = left pending x.0 x.1 (decides x.1) in
        cc (
          only_append (mine i) (out pending x.0 x.1 (decides x.1)) (serial decides order after xs),
          serial_line xs after,
          shift pending x.0 x.1 (decides x.1) xs,
        )

    pub line_kept : (xs : List (Item K N × A)) → only (λ x. is_of i x.0) (serialize decides order xs) ≡ only (λ x. is_of i x.0) xs
    line_kept xs = serial_line xs (λ l. [])

-- ---- every item with its answer, as often as it was

module _ {K N A : Type 0} (p : Item K N × A → Bool) (decides : A → Bool) (lines : ℕ) (order : List ℕ) (each : OrderOf lines order) where
  one_count : (pending : ℕ → List (K × A)) (e : Item K N) (a : A) (d : Bool) → OnLine lines e
      → count p (out pending e a d) + count p (rests (left pending e a d) order) ≡ count p (rests pending order) + count p ((e, a) ∷ [])
  one_count pending (event i k) a true h =
      simp (stretch_append, count_append) (omega (arith, rests_count i pending [] p order (each.once i h)))
  one_count pending (event i k) a false h =
      omega (arith, simp (stretch_append, count_append) at (rests_count i pending (pending i ++ ((k, a) ∷ [])) p order (each.once i h)))
  one_count pending (taking i n) a d h = omega arith

  serial_count_law : (xs : List (Item K N × A)) (pending : ℕ → List (K × A)) → Every (OnLine lines) (items xs)
      → count p (serial decides order pending xs) ≡ count p (rests pending order) + count p xs
  serial_count_law [] pending h = omega arith
  serial_count_law (x ∷ xs) pending h =
      let after : ℕ → List (K × A) = left pending x.0 x.1 (decides x.1) in
      simp count_append (omega (arith, serial_count_law xs after h.1, one_count pending x.0 x.1 (decides x.1) h.0))

  rests_empty : (is : List ℕ) → rests {K = K} {N = N} {A = A} (λ i. []) is ≡ []
  rests_empty [] = refl
  rests_empty (i ∷ is) = rests_empty is

  pub count_kept : (xs : List (Item K N × A)) → Every (OnLine lines) (items xs) → count p (serialize decides order xs) ≡ count p xs
  count_kept xs h = omega (arith, rw rests_empty at (serial_count_law xs (λ i. []) h))

-- ---- nothing that is pending has decided

undecided_snoc : {K A : Type 0} (decides : A → Bool) (xs : List (K × A)) (k : K) (a : A)
    → Undecided decides xs → decides a ≡ false → Undecided decides (xs ++ ((k, a) ∷ []))
undecided_snoc decides [] k a h e = (e, tt)
undecided_snoc decides (x ∷ xs) k a h e = (h.0, undecided_snoc decides xs k a h.1 e)

module _ {K N A : Type 0} (decides : A → Bool) (pending : ℕ → List (K × A)) (h : (i : ℕ) → Undecided decides (pending i)) where
  pub left_undecided : (e : Item K N) (a : A) (d : Bool) → decides a ≡ d → (i : ℕ) → Undecided decides (left pending e a d i)
  left_undecided (event l k) a true q = upd_all (λ i ys. Undecided decides ys) pending l [] tt (λ i n. h i)
  left_undecided (event l k) a false q =
      upd_all (λ i ys. Undecided decides ys) pending l (pending l ++ ((k, a) ∷ [])) (undecided_snoc decides (pending l) k a (h l) q) (λ i n. h i)
  left_undecided (taking l n) a d q = h

-- ---- the takings and the last events of the stretches, in their order: of any test that only these pass

module _ {K N A : Type 0} (decides : A → Bool) (p : Item K N × A → Bool) (passes : (i : ℕ) (k : K) (a : A) → decides a ≡ false → p (event i k, a) ≡ false) where
  pub stretch_passes : (i : ℕ) (xs : List (K × A)) → Undecided decides xs → only p (stretch i xs) ≡ []
  stretch_passes i [] h = refl
  stretch_passes i (x ∷ xs) h = rw (passes i x.0 x.1 h.0) (stretch_passes i xs h.1)

  pub rests_passes : (is : List ℕ) (pending : ℕ → List (K × A)) → ((i : ℕ) → Undecided decides (pending i)) → only p (rests pending is) ≡ []
  rests_passes [] pending h = refl
  rests_passes (i ∷ is) pending h = rw (only_append, stretch_passes i (pending i) (h i)) (rests_passes is pending h)

  out_passes : (pending : ℕ → List (K × A)) → ((i : ℕ) → Undecided decides (pending i)) → (e : Item K N) (a : A) (d : Bool) → decides a ≡ d
      → only p (out pending e a d) ≡ only p ((e, a) ∷ [])
  out_passes pending h (event i k) a true q = rw (stretch_append, only_append, stretch_passes i (pending i) (h i))
  out_passes pending h (event i k) a false q = rw (passes i k a q)
  out_passes pending h (taking i n) a d q = refl

  serial_passes : (order : List ℕ) (xs : List (Item K N × A)) (pending : ℕ → List (K × A)) → ((i : ℕ) → Undecided decides (pending i))
      → only p (serial decides order pending xs) ≡ only p xs
  serial_passes order [] pending h = rests_passes order pending h
  serial_passes order (x ∷ xs) pending h =
      let after : ℕ → List (K × A) = left pending x.0 x.1 (decides x.1) in
      rw (
        only_append,
        out_passes pending h x.0 x.1 (decides x.1) refl,
        serial_passes order xs after (left_undecided decides pending h x.0 x.1 (decides x.1) refl),
      )
      (sym (only_append p (x ∷ []) xs))

module _ {K N A : Type 0} (decides : A → Bool) (order : List ℕ) (xs : List (Item K N × A)) where
  pub ends_kept : only (is_end decides) (serialize decides order xs) ≡ only (is_end decides) xs
  ends_kept = serial_passes decides (is_end decides) (λ i k a q. q) order xs (λ i. []) (λ i. tt)

-- ---- stretches stand whole, and rests at the end

module _ {K N A : Type 0} (decides : A → Bool) (order : List ℕ) where
  in_front_law : (b : Part K N A) (zs : List (Item K N × A)) → Proper decides b → Whole decides order zs → Whole decides order (items_of b ++ zs)
  in_front_law b zs h v = record {
    parts = b ∷ v.parts;
    rest = v.rest;
    proper = (h, v.proper);
    unfinished = v.unfinished;
    made = ap (λ ys. items_of b ++ ys) v.made;
  }

  serial_whole : (xs : List (Item K N × A)) (pending : ℕ → List (K × A)) → ((i : ℕ) → Undecided decides (pending i))
      → Whole decides order (serial decides order pending xs)
  serial_whole [] pending h = record { parts = []; rest = pending; proper = tt; unfinished = h; made = refl }
  serial_whole (x ∷ xs) pending h =
      go x.0 x.1 (decides x.1) refl
      (serial_whole xs (left pending x.0 x.1 (decides x.1)) (left_undecided decides pending h x.0 x.1 (decides x.1) refl))
    where
      go : (e : Item K N) (a : A) (d : Bool) → decides a ≡ d → Whole decides order (serial decides order (left pending e a d) xs)
          → Whole decides order (out pending e a d ++ serial decides order (left pending e a d) xs)
      go (event i k) a true q v = in_front_law (finished i (pending i) k a) (serial decides order (upd pending i []) xs) (h i, q) v
      go (event i k) a false q v = v
      go (taking i n) a d q v = in_front_law (took i n a) (serial decides order pending xs) tt v

  pub whole : (xs : List (Item K N × A)) → Whole decides order (serialize decides order xs)
  whole xs = serial_whole xs (λ i. []) (λ i. tt)

  pub rearranged : (lines : ℕ) → OrderOf lines order → (xs : List (Item K N × A)) → Rearranged decides lines order xs (serialize decides order xs)
  rearranged lines each xs = record {
    each_line = λ i h. line_kept i decides lines order each h xs;
    ends = ends_kept decides order xs;
    whole = whole xs;
  }

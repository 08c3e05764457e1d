-- A block that is compared with the last stored one, and kept as it.
-- Assumes nothing.
use mathlib.Core.Path.{◌≡◌, refl, sym, ap}
use mathlib.Core.Bool.{Bool, true, false}
use mathlib.Core.List.{List, [], ◌∷◌}
use Rattle.std.specs.Prelude.{IsTrue, ◌↔◌}
use Prim.Native.Nat.{ℕ, zero, suc, ◌+◌, ◌-◌, ◌≤◌, ◌<◌}
use native.Mathlib.Nat.{add-zero}
use native.Mathlib.Numerals.{add-one}
use native.Mathlib.Omega.{arith}
use borrow.Author.Tests.{lt-ltb, le-ltb, le-leb, lt-leb, eq-eqb, eqb-true}
use lib.Dec.{eqb}
use lib.ListN.{length, take, drop, get_or, set, length-take, drop_of_length-le}
use Rattle.std.proofs.lemmas.List.{get_or-take, get_or-drop}
use lib.Seq.{drop-cons, sets}
use Rattle.memory.specs.Sizes.{lines}
use Rattle.memory.proofs.Tests.{clash, and_left, and_right, is_false}
use Rattle.settings.specs.Settings.{block_limit}
use Rattle.layout.specs.Layout.{block_start}
use Rattle.strips.specs.Readers.{begins_with}
use Rattle.strips.proofs.Readers.{begins_read}
use Rattle.keeping.specs.Keeping.{numbers_from, kept_block, with_block, is_kept, block_after}
use Rattle.keeping.proofs.Blocks.{length_numbers}

-- bytes that are compared with as many numbers from `at` on
abbrev Each : List ℕ → List ℕ → ℕ → Type 0
Each ns bs at = (k : ℕ) → k < length bs → get_or bs k 0 ≡ get_or ns (at + k) 0

each_begins : (ns bs : List ℕ) (at n : ℕ) → length bs ≤ n → Each ns bs at → begins_with bs (numbers_from ns at n) ≡ true
each_begins ns [] at n h e = refl
each_begins ns (b ∷ bs) at zero h e = absurd (omega arith)
each_begins ns (b ∷ bs) at (suc n) h e =
    let first : b ≡ get_or ns at 0 = rw add-zero at (e 0 (omega arith)) in
    rw (eq-eqb b (get_or ns at 0) first)
    (each_begins ns bs (suc at) n (omega arith) (λ k g. let next : at + suc k ≡ suc at + k = omega arith in rw next at (e (suc k) (omega arith))))

begins_each : (ns bs : List ℕ) (at n : ℕ) → begins_with bs (numbers_from ns at n) ≡ true → Each ns bs at
begins_each ns [] at n e k g = absurd (omega arith)
begins_each ns (b ∷ bs) at zero e k g = clash cc
begins_each ns (b ∷ bs) at (suc n) e zero g = rw (add-zero at) (eqb-true b (get_or ns at 0) (and_left (eqb b (get_or ns at 0)) (begins_with bs (numbers_from ns (suc at) n)) e))
begins_each ns (b ∷ bs) at (suc n) e (suc k) g =
    let next : at + suc k ≡ suc at + k = omega arith in
    rw next (begins_each ns bs (suc at) n (and_right (eqb b (get_or ns at 0)) (begins_with bs (numbers_from ns (suc at) n)) e) k (omega arith))

tells : (ns bs : List ℕ) (at n : ℕ) {r : Bool} → length bs ≤ n → IsTrue r ↔ Each ns bs at → r ≡ begins_with bs (numbers_from ns at n)
tells ns bs at n {r = true} h e = sym (each_begins ns bs at n h (e.0 refl))
tells ns bs at n {r = false} h e = sym (is_false (begins_with bs (numbers_from ns at n)) (λ t. clash (let f : false ≡ true = e.1 (begins_each ns bs at n t) in cc)))

-- n numbers that are lent from `at` on
pub lent_at : (ns : List ℕ) (at n k : ℕ) → k < n → get_or (take (at + n - at) (drop at ns)) k 0 ≡ get_or ns (at + k) 0
lent_at ns at n k h = let all : at + n - at ≡ n = omega arith in rw (all, get_or-take, get_or-drop)

-- a keeping that has put k bytes: the others are to be put
pub record Kept (ns : List ℕ) (i : ℕ) (bs ns' : List ℕ) (k : ℕ) : Type 0 where
  pub within : k ≤ length bs
  pub put : sets ns' (block_start i + k) (drop k bs) ≡ with_block ns i bs

module _ (ns : List ℕ) (i : ℕ) (bs : List ℕ) where
  pub kept_nowhere : lines ≤ i → false ≡ is_kept ns i bs
  unfolding is_kept
  kept_nowhere h = rw (le-ltb i lines h)

  pub put_nowhere : lines ≤ i → ns ≡ block_after ns i bs
  unfolding block_after
  put_nowhere h = rw (le-ltb i lines h)

  pub put_none : i < lines → block_limit < length bs → ns ≡ block_after ns i bs
  unfolding block_after
  put_none h k = rw (lt-ltb i lines h, lt-leb (length bs) block_limit k)

  pub kept_short : i < lines → block_limit < length bs → false ≡ is_kept ns i bs
  unfolding is_kept
  kept_short h g = rw (lt-ltb i lines h) (sym (is_false (begins_with bs (kept_block ns i)) (λ t.
      let all : length (take (length bs) (kept_block ns i)) ≡ length bs = ap length (begins_read bs (kept_block ns i) t) in
      omega (arith, simp length-take at all, length_numbers ns (block_start i) block_limit))))

  pub kept_tells : {r : Bool} → i < lines → length bs ≤ block_limit → IsTrue r ↔ Each ns bs (block_start i) → r ≡ is_kept ns i bs
  unfolding is_kept
  kept_tells h fits e = rw (lt-ltb i lines h) (tells ns bs (block_start i) block_limit fits e)

  pub nothing_put : Kept ns i bs ns 0
  nothing_put = record { within = omega arith; put = rw (add-zero (block_start i)) }

  module _ (h : i < lines) (fits : length bs ≤ block_limit) (k : ℕ) where
    pub put_end : {ns' : List ℕ} → length bs ≤ k → Kept ns i bs ns' k → ns' ≡ block_after ns i bs
    unfolding block_after
    put_end g c = rw (lt-ltb i lines h, le-leb (length bs) block_limit fits) (rw (drop_of_length-le bs g) at c.put)

    -- one byte more
    module _ (g : k < length bs) where
      pub put_on : {ns' : List ℕ} → Kept ns i bs ns' k → Kept ns i bs (set ns' (block_start i + k) (get_or bs k 0)) (k + 1)
      put_on {ns'} c =
          let next : block_start i + (k + 1) ≡ suc (block_start i + k) = omega arith in
          record { within = omega arith; put = rw (next, add-one) (rw (drop-cons bs k 0) at c.put) }

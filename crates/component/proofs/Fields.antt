-- The fields of a record, as a loop over its delimiters meets them.
-- Assumes nothing.
use mathlib.Core.Path.{◌≡◌, refl, sym, ap, ◌∙◌}
use mathlib.Core.List.{List, []}
use Prim.Native.Nat.{ℕ, zero, suc, ◌+◌, ◌-◌, ◌<◌, ◌≤◌}
use native.Mathlib.Omega.{arith}
use lib.ListN.{length, take, drop, drop_of_length-le}
use lib.Seq.{drop-drop}
use Rattle.memory.specs.Tests.{is, find}
use Rattle.records.specs.Fields.{before, behind, field_of}
use Rattle.records.proofs.Scans.{tail_at, rest_part}

field_nil : (b n : ℕ) → field_of b n [] ≡ []
field_nil b zero = refl
field_nil b (suc zero) = refl
field_nil b (suc (suc n)) = field_nil b (suc n)

field_more : (b n : ℕ) (s : List ℕ) → 1 < n → field_of b n s ≡ field_of b (n - 1) (behind b s)
field_more b zero s h = absurd (omega arith)
field_more b (suc zero) s h = absurd (omega arith)
field_more b (suc (suc n)) s h = let e : suc (suc n) - 1 ≡ suc n = omega arith in rw e

field_one : (b n : ℕ) (s : List ℕ) → n ≡ 1 → field_of b n s ≡ before b s
field_one b n s e = rw e

-- no field has number 0
pub field_zero : (b n : ℕ) (s : List ℕ) → n ≡ 0 → [] ≡ field_of b n s
field_zero b n s e = rw e

-- field n of what is left from `at` on is the field f that was asked for
module _ (b n : ℕ) (s : List ℕ) (at : ℕ) (f : List ℕ) (q : field_of b n (drop at s) ≡ f) where
  pub past_end : length s ≤ at → [] ≡ f
  past_end h = sym (field_nil b n) ∙ (rw (drop_of_length-le s h) at q)

  pub next_field : (e : ℕ) → 1 < n → e ≡ find (is b) (tail_at s at) → field_of b (n - 1) (drop (at + (e + 1)) s) ≡ f
  next_field e h k =
      let p : behind b (drop at s) ≡ drop (at + (e + 1)) s =
      ap (λ (i : ℕ). drop (i + 1) (drop at s)) (sym (rw rest_part at k)) ∙ drop-drop (e + 1) at s in
      rw (← p) (sym (field_more b n (drop at s) h) ∙ q)

  pub this_field : (e : ℕ) → n ≡ 1 → e ≡ find (is b) (tail_at s at) → take e (tail_at s at) ≡ f
  this_field e h k = rw (k, rest_part) (sym (field_one b n (drop at s) h) ∙ q)

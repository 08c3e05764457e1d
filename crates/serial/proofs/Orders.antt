-- Orders of the lines: there is one, and which one is taken for the rests makes no difference to the answers or to the state at the end.
-- Assumes nothing.
use mathlib.Core.Path.{◌≡◌, refl, sym, ◌∙◌}
use mathlib.Core.Bool.{Bool}
use mathlib.Core.List.{List}
use Prim.Native.Nat.{ℕ, zero, suc, ◌+◌, ◌≤◌, ◌<◌}
use native.Mathlib.Omega.{arith}
use native.Mathlib.Decide.{ℕ_discrete}
use Rattle.serial.specs.Serial.{Item, annotate, final, items, Every, count, times, OrderOf, count_up, up_to, serialize}
use Rattle.serial.specs.Inner.Machine.{Lined, NothingElse}
use Rattle.serial.specs.Kept.{only, is_of}
use Rattle.serial.specs.Inner.Machine.{OnLine}
use Rattle.serial.proofs.Updates.{times_own, times_other}
use Rattle.serial.proofs.Theorem.{serial_final}
use Rattle.serial.proofs.Kept.{line_kept, count_kept}

-- ---- the lines by their numbers

module _ (l : ℕ) where
  outside : (m i : ℕ) → l < i → times l (count_up i m) ≡ 0
  outside zero i h = refl
  outside (suc m) i h = times_other i l (count_up (suc i) m) (λ e. omega arith) ∙ outside m (suc i) (omega arith)

  behind : (m i : ℕ) → i + m ≤ l → times l (count_up i m) ≡ 0
  behind zero i h = refl
  behind (suc m) i h = times_other i l (count_up (suc i) m) (λ e. omega arith) ∙ behind m (suc i) (omega arith)

  inside : (m i : ℕ) → i ≤ l → l < i + m → times l (count_up i m) ≡ 1
  inside zero i h g = absurd (omega arith)
  inside (suc m) i h g = elim (ℕ_discrete i l) [
    | yes q ↦ rw q (omega (arith, times_own l (count_up (suc l) m), outside m (suc l) (omega arith)))
    | no n ↦ times_other i l (count_up (suc i) m) n ∙ inside m (suc i) (omega arith) (omega arith)
  ]

pub up_to_order : (lines : ℕ) → OrderOf lines (up_to lines)
up_to_order lines = record { once = λ l h. inside l lines 0 (omega arith) (omega arith); no_others = λ l h. behind l lines 0 (omega arith) }

-- ---- two orders

module _ {K N A : Type 0} (decides : A → Bool) (lines : ℕ) (order other : List ℕ) (each : OrderOf lines order) (each' : OrderOf lines other) where
  -- the same events of each line with the same answers, in the same order
  pub orders_line : (i : ℕ) → i < lines → (xs : List (Item K N × A))
      → only (λ x. is_of i x.0) (serialize decides order xs) ≡ only (λ x. is_of i x.0) (serialize decides other xs)
  orders_line i h xs = line_kept i decides lines order each h xs ∙ sym (line_kept i decides lines other each' h xs)

  -- the same items with the same answers, as often
  pub orders_count : (p : Item K N × A → Bool) (xs : List (Item K N × A)) → Every (OnLine lines) (items xs)
      → count p (serialize decides order xs) ≡ count p (serialize decides other xs)
  orders_count p xs h = count_kept p decides lines order each xs h ∙ sym (count_kept p decides lines other each' xs h)

module _ {S P J K N A : Type 0} (line_of : S → ℕ → P) (journalOf : S → J) (on_event : ℕ → P → K → J → A × P × J) (on_taking : ℕ → N → J → A × J)
    (decides : A → Bool) (lines : ℕ) (step : S → Item K N → A × S) (Sound : S → Type 0) (May : Item K N → Type 0)
    (L : Lined line_of journalOf on_event on_taking decides lines step Sound May) where
  -- the same state at the end
  pub orders_final : (order other : List ℕ) → OrderOf lines order → OrderOf lines other → (s : S) (es : List (Item K N)) → Sound s → Every May es
      → NothingElse line_of journalOf Sound
      → final step s (items (serialize decides order (annotate step s es))) ≡ final step s (items (serialize decides other (annotate step s es)))
  orders_final order other each each' s es w o nothing =
      serial_final line_of journalOf on_event on_taking decides lines step Sound May L order each s es w o nothing
      ∙ sym (serial_final line_of journalOf on_event on_taking decides lines step Sound May L other each' s es w o nothing)

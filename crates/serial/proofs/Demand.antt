-- Demand 3 in its own words, of any machine that is `Lined`: every history that is a run's history put in serial order, the rests in whatever order of the lines,
-- has the run's answers and its end; there is such a history; and nothing is lost in it and nothing added.
-- Assumes nothing.
use mathlib.Core.Path.{◌≡◌}
use mathlib.Core.Bool.{Bool}
use mathlib.Core.List.{List, [], ◌∷◌}
use Prim.Native.Nat.{ℕ}
use Rattle.serial.specs.Serial.{Item, event, taking, annotate, items, Every, GoesAlike, OrderOf, count, serialize}
use Rattle.serial.specs.Inner.Machine.{Lined, NothingElse}
use Rattle.serial.specs.Inner.Machine.{OnLine}
use Rattle.serial.specs.Kept.{Rearranged}
use Rattle.serial.proofs.Runs.{items_annotate}
use Rattle.serial.proofs.Theorem.{serial_alike}
use Rattle.serial.proofs.Kept.{count_kept, rearranged}
use Rattle.serial.proofs.Unique.{rearranged_is}

module _ {S P J K N A : Type 0} (line_of : S → ℕ → P) (journalOf : S → J) (on_event : ℕ → P → K → J → A × P × J) (on_taking : ℕ → N → J → A × J)
    (decides : A → Bool) (lines : ℕ) (step : S → Item K N → A × S) (Sound : S → Type 0) (May : Item K N → Type 0)
    (L : Lined line_of journalOf on_event on_taking decides lines step Sound May) where
  on_line : (e : Item K N) → May e → OnLine lines e
  on_line (event i k) m = L.on_line i k m
  on_line (taking i n) m = tt

  on_lines : (es : List (Item K N)) → Every May es → Every (OnLine lines) es
  on_lines [] o = tt
  on_lines (e ∷ es) o = (on_line e o.0, on_lines es o.1)

  module _ (order : List ℕ) (each : OrderOf lines order) (s : S) (es : List (Item K N)) (w : Sound s) (o : Every May es) where
    known : Every (OnLine lines) (items (annotate step s es))
    known = rw items_annotate (on_lines es o)

    -- no answer differs, to an event or a taking, nor does the state at the end
    pub demand : NothingElse line_of journalOf Sound → (zs : List (Item K N × A)) → Rearranged decides lines order (annotate step s es) zs → GoesAlike step s es zs
    demand nothing zs r =
        rw (rearranged_is decides lines order each (annotate step s es) zs known r)
        (serial_alike line_of journalOf on_event on_taking decides lines step Sound May L order each s es w o nothing)

    pub demand_met : Rearranged decides lines order (annotate step s es) (serialize decides order (annotate step s es))
    demand_met = rearranged decides order lines each (annotate step s es)

    -- every item with its answer is there, as often as in the run
    pub nothing_lost : (zs : List (Item K N × A)) → Rearranged decides lines order (annotate step s es) zs → (p : Item K N × A → Bool)
        → count p zs ≡ count p (annotate step s es)
    nothing_lost zs r p =
        rw (rearranged_is decides lines order each (annotate step s es) zs known r)
        (count_kept p decides lines order each (annotate step s es) known)

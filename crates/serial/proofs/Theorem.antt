-- The theorem of demand 3, of any machine that is `Lined`: a run and its serial form have the same answers and the same end.
-- Assumes nothing.
use mathlib.Core.Path.{◌≡◌, ◌∙◌}
use mathlib.Core.Bool.{Bool}
use mathlib.Core.List.{List}
use Prim.Native.Nat.{ℕ}
use Rattle.serial.specs.Serial.{Item, annotate, final, items, Every, GoesAlike, OrderOf, serialize}
use Rattle.serial.specs.Inner.Machine.{Lined, NothingElse}
use Rattle.serial.proofs.Runs.{runs_annotate, runs_final}
use Rattle.serial.proofs.Behind.{Reaches, lags_run, final_sound}

module _ {S P J K N A : Type 0} (line_of : S → ℕ → P) (journalOf : S → J) (on_event : ℕ → P → K → J → A × P × J) (on_taking : ℕ → N → J → A × J)
    (decides : A → Bool) (lines : ℕ) (step : S → Item K N → A × S) (Sound : S → Type 0) (May : Item K N → Type 0)
    (L : Lined line_of journalOf on_event on_taking decides lines step Sound May) where
  module _ (order : List ℕ) (each : OrderOf lines order) (s : S) (es : List (Item K N)) (w : Sound s) (o : Every May es) where
    abbrev reordered : List (Item K N × A)
    reordered = serialize decides order (annotate step s es)

    runs : Reaches line_of journalOf on_event on_taking decides lines step Sound May L s reordered (final step s es)
    runs = lags_run line_of journalOf on_event on_taking decides lines step Sound May L order each s es w o

    -- every event and every taking has the same answer
    pub serial_answers : annotate step s (items (serialize decides order (annotate step s es))) ≡ serialize decides order (annotate step s es)
    serial_answers = runs_annotate step reordered s runs.0 runs.1

    -- where the lines and the journal are all that a state holds, it is the same state
    pub serial_final : NothingElse line_of journalOf Sound
        → final step s (items (serialize decides order (annotate step s es))) ≡ final step s es
    serial_final nothing =
        runs_final step reordered s runs.0 runs.1
        ∙ nothing runs.0 (final step s es) runs.2 (final_sound line_of journalOf on_event on_taking decides lines step Sound May L es s w o) runs.3

    pub serial_alike : NothingElse line_of journalOf Sound → GoesAlike step s es (serialize decides order (annotate step s es))
    serial_alike nothing = record { answers = serial_answers; state = serial_final nothing }

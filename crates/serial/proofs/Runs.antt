-- A history that is a run: its items, from a state, get its answers and lead to a state.
-- Assumes nothing.
use mathlib.Core.Path.{◌≡◌, refl, ap}
use mathlib.Core.List.{List, [], ◌∷◌, ◌++◌}
use Rattle.serial.specs.Serial.{annotate, final, items}

module _ {S I A : Type 0} (step : S → I → A × S) where
  abbrev pub Runs : S → List (I × A) → S → Type 0
  Runs s [] t = s ≡ t
  Runs s (x ∷ xs) t = ((step s x.0).0 ≡ x.1) × Runs (step s x.0).1 xs t

  pub runs_append : (xs ys : List (I × A)) (s t u : S) → Runs s xs t → Runs t ys u → Runs s (xs ++ ys) u
  runs_append [] ys s t u g h = rw g h
  runs_append (x ∷ xs) ys s t u g h = (g.0, runs_append xs ys (step s x.0).1 t u g.1 h)

  pub runs_annotate : (xs : List (I × A)) (s t : S) → Runs s xs t → annotate step s (items xs) ≡ xs
  runs_annotate [] s t g = refl
  runs_annotate (x ∷ xs) s t g = λ i. (x.0, g.0 i) ∷ runs_annotate xs (step s x.0).1 t g.1 i

  pub runs_final : (xs : List (I × A)) (s t : S) → Runs s xs t → final step s (items xs) ≡ t
  runs_final [] s t g = g
  runs_final (x ∷ xs) s t g = runs_final xs (step s x.0).1 t g.1

  pub items_annotate : (es : List I) (s : S) → items (annotate step s es) ≡ es
  items_annotate [] s = refl
  items_annotate (e ∷ es) s = ap (λ xs. e ∷ xs) (items_annotate es (step s e).1)

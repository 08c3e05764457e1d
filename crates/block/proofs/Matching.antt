-- Laws of layouts: a block beside its template, and how long a block is that is laid out so.
-- Assumes nothing.
use mathlib.Core.Path.{◌≡◌, refl, sym, ap, ◌∙◌}
use mathlib.Core.Bool.{Bool, true, false, cond, ◌||◌}
use mathlib.Core.List.{List, [], ◌∷◌}
use Prim.Native.Nat.{ℕ, zero, suc, ◌<◌}
use native.Mathlib.Omega.{arith}
use lib.Dec.{eqb}
use lib.ListN.{length, get_or}
use Rattle.std.specs.Prelude.{IsTrue, ◌↔◌}
use Rattle.memory.proofs.Tests.{clash, and_left, and_right, is_false}
use Rattle.characters.specs.Control.{stx, etx, cr}
use Rattle.settings.specs.declared.Patient.{Patient}
use Rattle.block.specs.Places.{Place, fixed, datum, test, fits, matches}
use Rattle.block.specs.Layouts.{control_block}
use Rattle.block.specs.Inner.Template.{dot, hash, is_mark, place_of, places_of_template}

-- a block that is laid out so is as long as its layout
pub matches_long : (ps : List Place) (bs : List ℕ) → matches ps bs ≡ true → length bs ≡ length ps
matches_long [] [] e = refl
matches_long [] (b ∷ bs) e = clash cc
matches_long (p ∷ ps) [] e = clash cc
matches_long (p ∷ ps) (b ∷ bs) e = ap suc (matches_long ps bs (and_right (fits p b) (matches ps bs) e))

places_long : (ms : List ℕ) → length (places_of_template ms) ≡ length ms
places_long [] = refl
places_long (m ∷ ms) = ap suc (places_long ms)

pub other_length : (ms bs : List ℕ) → (length ms ≡ length bs → ⊥) → matches (places_of_template ms) bs ≡ false
other_length ms bs n =
    is_false (matches (places_of_template ms) bs) (λ e. n (sym (matches_long (places_of_template ms) bs e ∙ places_long ms)))

-- a block that is as long as its template is laid out so exactly if each byte may stand where it does
abbrev Each : List ℕ → List ℕ → Type 0
Each ms bs = (k : ℕ) → k < length bs → fits (place_of (get_or ms k 0)) (get_or bs k 0) ≡ true

each_matches : (ms bs : List ℕ) → length ms ≡ length bs → Each ms bs → matches (places_of_template ms) bs ≡ true
each_matches [] [] e h = refl
each_matches [] (b ∷ bs) e h = absurd (omega arith)
each_matches (m ∷ ms) [] e h = absurd (omega arith)
each_matches (m ∷ ms) (b ∷ bs) e h = rw (h 0 (omega arith)) (each_matches ms bs (omega arith) (λ k g. h (suc k) (omega arith)))

matches_each : (ms bs : List ℕ) → length ms ≡ length bs → matches (places_of_template ms) bs ≡ true → Each ms bs
matches_each [] [] e h k g = absurd (omega arith)
matches_each [] (b ∷ bs) e h k g = absurd (omega arith)
matches_each (m ∷ ms) [] e h k g = absurd (omega arith)
matches_each (m ∷ ms) (b ∷ bs) e h zero g = and_left (fits (place_of m) b) (matches (places_of_template ms) bs) h
matches_each (m ∷ ms) (b ∷ bs) e h (suc k) g = matches_each ms bs (omega arith) (and_right (fits (place_of m) b) (matches (places_of_template ms) bs) h) k (omega arith)

pub laid_out : (ms bs : List ℕ) {r : Bool} → length ms ≡ length bs → IsTrue r ↔ Each ms bs → r ≡ matches (places_of_template ms) bs
laid_out ms bs {r = true} e h = sym (each_matches ms bs e (h.0 refl))
laid_out ms bs {r = false} e h = sym (is_false (matches (places_of_template ms) bs) (λ t. clash (let f : false ≡ true = h.1 (matches_each ms bs e t) in cc)))

-- a layout for each length of a patient number, at the length that is told
pub of_patient : (layout : Patient → List Place) (bs : List ℕ) {p q : Patient} {r : Bool} → r ≡ matches (layout q) bs → p ≡ q → r ≡ matches (layout p) bs
of_patient layout bs e h = rw h e

-- a byte that is no mark stands for itself, and so a control block has this template
not_mark : (m : ℕ) → is_mark m ≡ false → place_of m ≡ fixed m
unfolding place_of
not_mark m e = by_tests (eqb m hash) (eqb m dot) e
  where
    by_tests : (x y : Bool) → x || y ≡ false → cond x test (cond y datum (fixed m)) ≡ fixed m
    by_tests false false e = refl
    by_tests false true e = clash cc
    by_tests true y e = clash cc

pub control_places : (code : ℕ) → is_mark code ≡ false → places_of_template (stx ∷ code ∷ etx ∷ hash ∷ hash ∷ cr ∷ []) ≡ control_block code
unfolding place_of
control_places code e = rw (not_mark code e)

-- What a judged block is known to be.
-- Assumes nothing.
use mathlib.Core.Path.{◌≡◌, refl, ◌∙◌}
use mathlib.Core.Bool.{Bool, true, false, cond, ◌||◌}
use mathlib.Core.List.{List}
use Prim.Native.Nat.{ℕ, ◌≤◌}
use native.Mathlib.Omega.{arith}
use borrow.Author.Tests.{eqb-true}
use lib.Dec.{eqb}
use lib.ListN.{length}
use Rattle.memory.proofs.Tests.{clash}
use Rattle.settings.specs.Settings.{results_length, colours_length}
use Rattle.settings.specs.declared.Patient.{Patient}
use Rattle.settings.specs.declared.Patient.TheVariants.{Ten, Thirteen}
use Rattle.block.specs.Places.{matches}
use Rattle.block.specs.Layouts.{spm, rep, end, control_block, results_block, colours_block}
use Rattle.block.specs.Judged.{control_length, is_length, is_tested, control_of, data_of, judged_of}
use Rattle.block.specs.declared.Judged.TheVariants.{OddLength, OddTest, OddByte, Multiple, Repeat, End, Colours, Results}
use Rattle.block.proofs.Matching.{matches_long}

one_of : (a b c : Bool) {A : Type 0} → a || b || c ≡ true → (a ≡ true → A) → (b ≡ true → A) → (c ≡ true → A) → A
one_of true b c e f g h = f refl
one_of false true c e f g h = g refl
one_of false false c e f g h = h e

lengths_long : (p : Patient) → (control_length ≤ colours_length p) × (control_length ≤ results_length p)
lengths_long Ten = (omega arith, omega arith)
lengths_long Thirteen = (omega arith, omega arith)

-- no length that a block may have is below that of a control block
pub at_least_six : (p : Patient) (n : ℕ) → is_length p n ≡ true → control_length ≤ n
unfolding is_length
at_least_six p n e =
    let (d, r) = lengths_long p in
    one_of (eqb n control_length) (eqb n (colours_length p)) (eqb n (results_length p)) e
    (λ q. omega (arith, eqb-true n control_length q))
    (λ q. omega (arith, eqb-true n (colours_length p) q))
    (λ q. omega (arith, eqb-true n (results_length p) q))

-- the layout of results is as long as it is said to be
results_long : (p : Patient) → length (results_block p) ≡ results_length p
unfolding results_block
results_long Ten = refl
results_long Thirteen = refl

-- a block with results is laid out as one, is tested, and is as long as one
module _ (p : Patient) (bs : List ℕ) where
  of_data : data_of p bs ≡ Results → matches (results_block p) bs ≡ true
  unfolding data_of
  of_data e = by_tests (eqb (length bs) (colours_length p)) (matches (colours_block p) bs) (matches (results_block p) bs) e
    where
      by_tests : (n d r : Bool) → cond n (cond d Colours OddByte) (cond r Results OddByte) ≡ Results → r ≡ true
      by_tests true true r e = clash cc
      by_tests true false r e = clash cc
      by_tests false d true e = refl
      by_tests false d false e = clash cc

  of_control : control_of bs ≡ Results → {A : Type 0} → A
  unfolding control_of
  of_control e = by_tests (matches (control_block spm) bs) (matches (control_block rep) bs) (matches (control_block end) bs) e
    where
      by_tests : (m r n : Bool) → cond m Multiple (cond r Repeat (cond n End OddByte)) ≡ Results → {A : Type 0} → A
      by_tests true r n e = clash cc
      by_tests false true n e = clash cc
      by_tests false false true e = clash cc
      by_tests false false false e = clash cc

  told : judged_of p bs ≡ Results → (is_tested bs ≡ true) × (matches (results_block p) bs ≡ true)
  unfolding judged_of
  told e = by_tests (is_length p (length bs)) (is_tested bs) (eqb (length bs) control_length) e
    where
      by_tests : (n t k : Bool) → cond n (cond t (cond k (control_of bs) (data_of p bs)) OddTest) OddLength ≡ Results → (t ≡ true) × (matches (results_block p) bs ≡ true)
      by_tests true true true e = of_control e
      by_tests true true false e = (refl, of_data e)
      by_tests true false k e = clash cc
      by_tests false t k e = clash cc

  pub results_tested : judged_of p bs ≡ Results → is_tested bs ≡ true
  results_tested e = (told e).0

  pub results_matches : judged_of p bs ≡ Results → matches (results_block p) bs ≡ true
  results_matches e = (told e).1

  pub results_length_law : judged_of p bs ≡ Results → length bs ≡ results_length p
  results_length_law e = matches_long (results_block p) bs (results_matches e) ∙ results_long p

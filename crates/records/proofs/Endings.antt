-- What a text's ending tells of its final CR and of its last record.
-- Assumes nothing.
use mathlib.Core.Path.{◌≡◌, refl}
use mathlib.Core.Bool.{Bool, true, false, cond}
use mathlib.Core.List.{List}
use Prim.Native.Nat.{ℕ}
use Rattle.memory.specs.Tests.{unless}
use Rattle.records.specs.Records.{ends_with_cr, ends_with_l, ending_of}
use Rattle.records.specs.declared.Ending.{Ending}
use Rattle.records.specs.declared.Ending.TheVariants.{WithoutCr, WithL, WithOther}

abbrev by_tests : Bool → Bool → Ending
by_tests hasCr hasL = unless hasCr WithoutCr (cond hasL WithL WithOther)

pub without_cr : (text : List ℕ) → ending_of text ≡ WithoutCr → ends_with_cr text ≡ false
unfolding ending_of
without_cr text e = tests (ends_with_cr text) (ends_with_l text) e
  where
    tests : (c l : Bool) → by_tests c l ≡ WithoutCr → c ≡ false
    tests false l e = refl
    tests true true e = cc
    tests true false e = cc

pub with_l : (text : List ℕ) → ending_of text ≡ WithL → (ends_with_cr text ≡ true) × (ends_with_l text ≡ true)
unfolding ending_of
with_l text e = tests (ends_with_cr text) (ends_with_l text) e
  where
    tests : (c l : Bool) → by_tests c l ≡ WithL → (c ≡ true) × (l ≡ true)
    tests true true e = (refl, refl)
    tests true false e = (refl, cc)
    tests false l e = (cc, cc)

pub with_other : (text : List ℕ) → ending_of text ≡ WithOther → (ends_with_cr text ≡ true) × (ends_with_l text ≡ false)
unfolding ending_of
with_other text e = tests (ends_with_cr text) (ends_with_l text) e
  where
    tests : (c l : Bool) → by_tests c l ≡ WithOther → (c ≡ true) × (l ≡ false)
    tests true true e = (refl, cc)
    tests true false e = (refl, refl)
    tests false l e = (cc, cc)

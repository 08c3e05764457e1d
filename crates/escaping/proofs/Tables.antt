-- The table of letters, as it is laid out: letter by letter, the one that counts most last.
-- Assumes nothing.
use mathlib.Core.Path.{◌≡◌, ap, ◌∙◌}
use mathlib.Core.List.{List, [], ◌∷◌}
use Prim.Native.Nat.{ℕ, ◌<◌}
use native.Mathlib.Omega.{arith}
use native.Mathlib.Decide.{ℕ_discrete}
use lib.ListN.{length, get_or, set, length-set, replicate, length-replicate, get_or-replicate}
use lib.Seq.{get_or-set_same, get_or-set_other}
use borrow.Author.Tests.{eq-eqb, ne_eqb}
use Rattle.kinds.specs.declared.Delimiters.{Delimiters}
use Rattle.escaping.specs.Letters.{Lettered, lettered, letter_in, letter_for, escapes}
use Rattle.escaping.specs.Inner.Table.{Lettering}

-- a table of 256 entries with the letters of a list
pub record Laid (es : List Lettered) (t : List ℕ) : Type 0 where
  pub long : length t ≡ 256
  pub letter : (b : ℕ) → b < 256 → get_or t b 0 ≡ letter_in es b

pub none_laid : Laid [] (replicate 256 0)
none_laid = record { long = length-replicate {A = ℕ} 256 0; letter = λ b h. get_or-replicate {A = ℕ} 256 b 0 0 h }

-- one letter more, which counts before those that are laid
pub one_laid : {es : List Lettered} {t : List ℕ} (l x : ℕ) → x < 256 → Laid es t → Laid (lettered l x ∷ es) (set t x l)
one_laid {es} {t} l x h laid = record {
  long = simp length-set laid.long;
  letter = λ b below.
      elim (ℕ_discrete b x) [
        | yes p ↦ ap (λ (k : ℕ). get_or (set t x l) k 0) p ∙ get_or-set_same t x l 0 (omega (arith, laid.long)) ∙ rw (eq-eqb b x p)
        | no p ↦ get_or-set_other t x b l 0 p ∙ laid.letter b below ∙ rw (ne_eqb b x p)
      ];
}

pub letters_laid : {d : Delimiters} {t : List ℕ} → Laid (escapes d) t → Lettering d t
unfolding letter_for
letters_laid laid = record { letter = laid.letter }

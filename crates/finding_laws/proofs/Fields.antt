-- Fields that are put together with delimiters between them, and read again.
-- Assumes nothing.
use Rattle.std.specs.Prelude.{Some}
use mathlib.Core.Path.{◌≡◌, refl, ap}
use mathlib.Core.Bool.{Bool, true, false, not, cond}
use mathlib.Core.List.{List, [], ◌∷◌, ◌++◌}
use Prim.Native.Nat.{ℕ, suc, ◌≤◌}
use native.Mathlib.Omega.{arith}
use lib.Dec.{leb}
use lib.ListN.{length}
use lib.Seq.{take-length, take-append_seam, drop-append-add}
use borrow.Author.Tests.{leb-true, ne_eqb}
use Rattle.memory.specs.Tests.{is, between, all, find}
use Rattle.memory.proofs.Tests.{and_left, and_right, never_both}
use Rattle.kinds.specs.Delimiters.{standard}
use Rattle.records.specs.Fields.{before, behind, field_of}
use Rattle.sequence.specs.Numbers.{is_digit}
use Rattle.escaping.specs.Unescape.{unescaped}
use Rattle.finding.specs.Trimmed.{trimmed_front, trimmed_back, trimmed}
use Rattle.finding.specs.Findings.{fielded}
use Rattle.finding_laws.proofs.Texts.{is_not_bar}
use Rattle.finding_laws.proofs.Message.{is_capital, all_of}

abbrev bar : ℕ
bar = standard.field

-- a text with no delimiter, and what stands behind it
module _ (t : List ℕ) where
  find_past : (f : List ℕ) → all is_not_bar f ≡ true → find (is bar) (f ++ bar ∷ t) ≡ length f
  find_past [] h = refl
  find_past (b ∷ f) h = by_first (is bar b) (and_left (is_not_bar b) (all is_not_bar f) h) (find_past f (and_right (is_not_bar b) (all is_not_bar f) h))
    where
      by_first : (a : Bool) → not a ≡ true → find (is bar) (f ++ bar ∷ t) ≡ length f → cond a 0 (suc (find (is bar) (f ++ bar ∷ t))) ≡ suc (length f)
      by_first true n k = never_both false n refl
      by_first false n k = ap suc k

  pub before_bar : (f : List ℕ) → all is_not_bar f ≡ true → before bar (f ++ bar ∷ t) ≡ f
  before_bar f h = rw (find_past f h) (take-append_seam f (bar ∷ t))

  pub behind_bar : (f : List ℕ) → all is_not_bar f ≡ true → behind bar (f ++ bar ∷ t) ≡ t
  behind_bar f h = rw (find_past f h) (drop-append-add f (bar ∷ t) 1)

find_none : (f : List ℕ) → all is_not_bar f ≡ true → find (is bar) f ≡ length f
find_none [] h = refl
find_none (b ∷ f) h = by_first (is bar b) (and_left (is_not_bar b) (all is_not_bar f) h) (find_none f (and_right (is_not_bar b) (all is_not_bar f) h))
  where
    by_first : (a : Bool) → not a ≡ true → find (is bar) f ≡ length f → cond a 0 (suc (find (is bar) f)) ≡ suc (length f)
    by_first true n k = never_both false n refl
    by_first false n k = ap suc k

-- the first field, and the next
pub field_first : (f : List ℕ) (gs : List (List ℕ)) → all is_not_bar f ≡ true → field_of bar 1 (fielded f gs) ≡ f
field_first f [] h = rw (find_none f h) (take-length f)
field_first f (g ∷ gs) h = before_bar (fielded g gs) f h

pub field_next : (n : ℕ) (f g : List ℕ) (gs : List (List ℕ)) → all is_not_bar f ≡ true → field_of bar (suc (suc n)) (fielded f (g ∷ gs)) ≡ field_of bar (suc n) (fielded g gs)
field_next n f g gs h = ap (field_of bar (suc n)) (behind_bar (fielded g gs) f h)

-- capitals are no delimiters and no spaces: they stand for themselves, and nothing is trimmed of them
other_than : (a e x b : ℕ) → between a e b ≡ true → (a ≤ b → b ≤ e → b ≡ x → ⊥) → is x b ≡ false
other_than a e x b h n = ne_eqb b x (n (leb-true a b (and_left (leb a b) (leb b e) h)) (leb-true b e (and_right (leb a b) (leb b e) h)))

capital_bare : (b : ℕ) → is_capital b ≡ true → is_not_bar b ≡ true
capital_bare b h = rw (other_than 0x41 0x5a 0x7c b h (λ l u e. omega arith))

pub capitals_bare : (bs : List ℕ) → all is_capital bs ≡ true → all is_not_bar bs ≡ true
capitals_bare bs h = all_of is_capital is_not_bar capital_bare bs h

digit_bare : (b : ℕ) → is_digit b ≡ true → is_not_bar b ≡ true
digit_bare b h = rw (other_than 0x30 0x39 0x7c b h (λ l u e. omega arith))

pub digits_bare : (bs : List ℕ) → all is_digit bs ≡ true → all is_not_bar bs ≡ true
digits_bare bs h = all_of is_digit is_not_bar digit_bare bs h

pub capitals_plain : (bs : List ℕ) → all is_capital bs ≡ true → unescaped standard bs ≡ Some bs
capitals_plain [] h = refl
capitals_plain (b ∷ bs) h =
    let c = and_left (is_capital b) (all is_capital bs) h in
    rw (
      other_than 0x41 0x5a 0x26 b c (λ l u e. omega arith),
      other_than 0x41 0x5a 0x7c b c (λ l u e. omega arith),
      other_than 0x41 0x5a 0x5c b c (λ l u e. omega arith),
      other_than 0x41 0x5a 0x5e b c (λ l u e. omega arith),
      capitals_plain bs (and_right (is_capital b) (all is_capital bs) h),
    )

capitals_back : (bs : List ℕ) → all is_capital bs ≡ true → trimmed_back bs ≡ bs
unfolding trimmed_back
capitals_back [] h = refl
capitals_back (b ∷ bs) h =
    rw (other_than 0x41 0x5a 0x20 b (and_left (is_capital b) (all is_capital bs) h) (λ l u e. omega arith), capitals_back bs (and_right (is_capital b) (all is_capital bs) h))

pub capitals_trimmed : (bs : List ℕ) → all is_capital bs ≡ true → trimmed bs ≡ bs
unfolding trimmed_front
capitals_trimmed [] h = capitals_back [] h
capitals_trimmed (b ∷ bs) h = rw (other_than 0x41 0x5a 0x20 b (and_left (is_capital b) (all is_capital bs) h) (λ l u e. omega arith)) (capitals_back (b ∷ bs) h)

-- What trimming and escaping make of bytes of data.
-- Assumes nothing.
use mathlib.Core.Path.{◌≡◌, refl, ap, ◌∙◌}
use mathlib.Core.Bool.{Bool, true, false, not, cond, ◌&&◌}
use mathlib.Core.List.{List, [], ◌∷◌, ◌++◌}
use Prim.Native.Nat.{ℕ, ◌≤◌}
use native.Mathlib.Omega.{arith}
use lib.Dec.{eqb, leb}
use borrow.Author.Tests.{leb-true, le-leb, ne_eqb}
use Rattle.memory.specs.Tests.{is, all}
use Rattle.memory.proofs.Tests.{and_left, and_right, and_both, all_append}
use Rattle.characters.specs.Allowed.{allowed, ordinary}
use Rattle.kinds.specs.Delimiters.{standard}
use Rattle.escaping.specs.Letters.{letter_for}
use Rattle.escaping.specs.Escape.{escape_of, escaped}
use Rattle.block.specs.Places.{is_datum}
use Rattle.finding.specs.Trimmed.{is_space, trimmed_front, trimmed_back, trimmed}

-- a byte of data may stand in a record
datum_ordinary : (b : ℕ) → is_datum b ≡ true → ordinary b ≡ true
unfolding allowed ordinary
datum_ordinary b h =
    let low : 0x20 ≤ b = leb-true 0x20 b (and_left (leb 0x20 b) (leb b 0x7d) h) in
    let high : b ≤ 0x7d = leb-true b 0x7d (and_right (leb 0x20 b) (leb b 0x7d) h) in
    rw (ne_eqb b 0x07 (λ e. omega arith), ne_eqb b 0x09 (λ e. omega arith), ne_eqb b 0x0b (λ e. omega arith), ne_eqb b 0x0c (λ e. omega arith), ne_eqb b 0x0d (λ e. omega arith), le-leb 0x20 b low, le-leb b 0x7e (omega arith))

pub data_ordinary : (bs : List ℕ) → all is_datum bs ≡ true → all ordinary bs ≡ true
data_ordinary [] h = refl
data_ordinary (b ∷ bs) h =
    and_both (ordinary b) (all ordinary bs) (datum_ordinary b (and_left (is_datum b) (all is_datum bs) h)) (data_ordinary bs (and_right (is_datum b) (all is_datum bs) h))

-- trimming takes bytes away
module _ (f : ℕ → Bool) where
  front_keeps : (bs : List ℕ) → all f bs ≡ true → all f (trimmed_front bs) ≡ true
  unfolding trimmed_front
  front_keeps [] h = refl
  front_keeps (b ∷ bs) h = by_space (is_space b) (front_keeps bs (and_right (f b) (all f bs) h))
    where
      by_space : (a : Bool) → all f (trimmed_front bs) ≡ true → all f (cond a (trimmed_front bs) (b ∷ bs)) ≡ true
      by_space true k = k
      by_space false k = h

  back_keeps : (bs : List ℕ) → all f bs ≡ true → all f (trimmed_back bs) ≡ true
  unfolding trimmed_back
  back_keeps [] h = refl
  back_keeps (b ∷ bs) h = by_space (all is_space (b ∷ bs)) (back_keeps bs (and_right (f b) (all f bs) h))
    where
      by_space : (a : Bool) → all f (trimmed_back bs) ≡ true → all f (cond a [] (b ∷ trimmed_back bs)) ≡ true
      by_space true k = refl
      by_space false k = and_both (f b) (all f (trimmed_back bs)) (and_left (f b) (all f bs) h) k

  pub trimmed_keeps : (bs : List ℕ) → all f bs ≡ true → all f (trimmed bs) ≡ true
  trimmed_keeps bs h = back_keeps (trimmed_front bs) (front_keeps bs h)

-- spaces behind make no difference
module _ (ss : List ℕ) (spaces : all is_space ss ≡ true) where
  front_none : (bs : List ℕ) → all is_space bs ≡ true → trimmed_front bs ≡ []
  unfolding trimmed_front
  front_none [] h = refl
  front_none (b ∷ bs) h = rw (and_left (is_space b) (all is_space bs) h) (front_none bs (and_right (is_space b) (all is_space bs) h))

  back_more : (bs : List ℕ) → trimmed_back (bs ++ ss) ≡ trimmed_back bs
  unfolding trimmed_back
  back_more [] = none ss spaces
    where
      none : (bs : List ℕ) → all is_space bs ≡ true → trimmed_back bs ≡ []
      none [] h = refl
      none (b ∷ bs) h = rw h
  back_more (b ∷ bs) =
      let same : all is_space (bs ++ ss) ≡ all is_space bs = all_append is_space bs ss ∙ rw spaces (and_true (all is_space bs)) in
      rw (same, back_more bs)
    where
      and_true : (a : Bool) → a && true ≡ a
      and_true true = refl
      and_true false = refl

  pub trimmed_more : (bs : List ℕ) → trimmed (bs ++ ss) ≡ trimmed bs
  unfolding trimmed_front
  trimmed_more [] = ap trimmed_back (front_none ss spaces)
  trimmed_more (b ∷ bs) = by_space (is_space b) (trimmed_more bs)
    where
      by_space : (a : Bool) → trimmed (bs ++ ss) ≡ trimmed bs → trimmed_back (cond a (trimmed_front (bs ++ ss)) (b ∷ bs ++ ss)) ≡ trimmed_back (cond a (trimmed_front bs) (b ∷ bs))
      by_space true k = k
      by_space false k = back_more (b ∷ bs)

-- an escape may stand in a record, and has no field delimiter
abbrev pub is_not_bar : ℕ → Bool
is_not_bar b = not (is standard.field b)

abbrev made : ℕ → ℕ → List ℕ
made b l = cond (eqb l 0) (b ∷ []) (0x26 ∷ l ∷ 0x26 ∷ [])

escape_ordinary : (b : ℕ) → ordinary b ≡ true → all ordinary (escape_of standard b) ≡ true
unfolding letter_for escape_of allowed ordinary
escape_ordinary b h = by_tests (is 0x7c b) (is 0x5e b) (is 0x5c b) (is 0x26 b)
  where
    by_tests : (f c r e : Bool) → all ordinary (made b (cond f 0x46 (cond c 0x53 (cond r 0x52 (cond e 0x45 0))))) ≡ true
    by_tests true c r e = refl
    by_tests false true r e = refl
    by_tests false false true e = refl
    by_tests false false false true = refl
    by_tests false false false false = rw h

pub escaped_ordinary : (bs : List ℕ) → all ordinary bs ≡ true → all ordinary (escaped standard bs) ≡ true
escaped_ordinary [] h = refl
escaped_ordinary (b ∷ bs) h =
    all_append ordinary (escape_of standard b) (escaped standard bs)
    ∙ and_both (all ordinary (escape_of standard b)) (all ordinary (escaped standard bs)) (escape_ordinary b (and_left (ordinary b) (all ordinary bs) h))
    (escaped_ordinary bs (and_right (ordinary b) (all ordinary bs) h))

escape_bare : (b : ℕ) → all is_not_bar (escape_of standard b) ≡ true
unfolding letter_for escape_of
escape_bare b = by_tests (is 0x7c b) refl (is 0x5e b) (is 0x5c b) (is 0x26 b)
  where
    by_tests : (f : Bool) → is 0x7c b ≡ f → (c r e : Bool) → all is_not_bar (made b (cond f 0x46 (cond c 0x53 (cond r 0x52 (cond e 0x45 0))))) ≡ true
    by_tests true h c r e = refl
    by_tests false h true r e = refl
    by_tests false h false true e = refl
    by_tests false h false false true = refl
    by_tests false h false false false = rw h

pub escaped_bare : (bs : List ℕ) → all is_not_bar (escaped standard bs) ≡ true
escaped_bare [] = refl
escaped_bare (b ∷ bs) =
    all_append is_not_bar (escape_of standard b) (escaped standard bs)
    ∙ and_both (all is_not_bar (escape_of standard b)) (all is_not_bar (escaped standard bs)) (escape_bare b) (escaped_bare bs)

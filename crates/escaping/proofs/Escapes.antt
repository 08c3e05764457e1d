-- One byte's escape, as a loop over a text meets it.
-- Assumes nothing.
use Rattle.std.specs.Prelude.{Err, Ok}
use Rattle.escaping.specs.declared.Refusal.TheVariants.{BadDelimiters, NotFitting}
use mathlib.Core.Path.{◌≡◌, sym, ap, ◌∙◌}
use mathlib.Core.Bool.{Bool, true, false}
use mathlib.Core.List.{List, [], ◌∷◌, ◌++◌}
use Prim.Native.Nat.{ℕ, ◌+◌, ◌-◌, ◌<◌, ◌≤◌}
use native.Mathlib.Omega.{arith}
use native.Mathlib.Numerals.{add-one, add-two, add-three}
use native.Mathlib.Decide.{dec_lt}
use lib.Dec.{leb}
use lib.ListN.{length, get_or, drop, set, length-append, drop_of_length-le}
use lib.Seq.{drop-cons, sets}
use borrow.Author.Tests.{le-leb, lt-leb, eq-eqb, ne_eqb, leb-true}
use native.Mathlib.Nat.{zero-add}
use Rattle.memory.specs.Moves.{copied}
use Rattle.memory.proofs.Parts.{sets_splice}
use Rattle.kinds.specs.Delimiters.{are_delimiters}
use Rattle.kinds.specs.declared.Delimiters.{Delimiters}
use Rattle.escaping.specs.Letters.{letter_for}
use Rattle.escaping.specs.Escape.{escape_of, escaped, escape_answer, escaped_over, Escaping}

pub escape_one : (d : Delimiters) (x : ℕ) → letter_for d x ≡ 0 → escape_of d x ≡ x ∷ []
unfolding escape_of
escape_one d x e = rw (eq-eqb (letter_for d x) 0 e)

pub escape_three : (d : Delimiters) (x : ℕ) → (letter_for d x ≡ 0 → ⊥) → escape_of d x ≡ d.escape ∷ letter_for d x ∷ d.escape ∷ []
unfolding escape_of
escape_three d x e = rw (ne_eqb (letter_for d x) 0 e)

escaped_more : (d : Delimiters) (s : List ℕ) (i : ℕ) → i < length s → escaped d (drop i s) ≡ escape_of d (get_or s i 0) ++ escaped d (drop (i + 1) s)
escaped_more d s i h = rw (add-one, drop-cons s i 0)

leb_less : (k m r : ℕ) → k ≤ r → leb (k + m) r ≡ leb m (r - k)
leb_less k m r h =
    elim (dec_lt r (k + m)) [
      | yes p ↦ rw (lt-leb (k + m) r p, lt-leb m (r - k) (omega arith))
      | no p ↦ rw (le-leb (k + m) r (omega arith), le-leb m (r - k) (omega arith))
    ]

length_more : (d : Delimiters) (s : List ℕ) (i : ℕ) → i < length s → length (escaped d (drop i s)) ≡ length (escape_of d (get_or s i 0)) + length (escaped d (drop (i + 1) s))
length_more d s i h = ap length (escaped_more d s i h) ∙ length-append (escape_of d (get_or s i 0)) (escaped d (drop (i + 1) s))

-- the room that is left, and the bytes that are left
module _ (d : Delimiters) (s : List ℕ) (i w r : ℕ) (h : i < length s) (k : w ≡ length (escape_of d (get_or s i 0))) (b : Bool) where
  pub room_none : r < w → leb (length (escaped d (drop i s))) r ≡ b → false ≡ b
  room_none p e = sym (lt-leb (length (escaped d (drop i s))) r (omega (arith, length_more d s i h))) ∙ e

  pub room_less : w ≤ r → leb (length (escaped d (drop i s))) r ≡ b → leb (length (escaped d (drop (i + 1) s))) (r - w) ≡ b
  room_less p e = sym (leb_less w (length (escaped d (drop (i + 1) s))) r p) ∙ (rw (length_more d s i h, ← k) at e)

pub room_done : (d : Delimiters) (s : List ℕ) (i r : ℕ) (b : Bool) → length s ≤ i → leb (length (escaped d (drop i s))) r ≡ b → true ≡ b
room_done d s i r b h e = sym (le-leb 0 r (omega arith)) ∙ (rw (drop_of_length-le s h) at e)

-- one byte's escape stored, and the others still to store
module _ (d : Delimiters) (s : List ℕ) (i o : ℕ) (h : i < length s) (out all : List ℕ) where
  pub put_one : letter_for d (get_or s i 0) ≡ 0 → sets out o (escaped d (drop i s)) ≡ all → sets (set out o (get_or s i 0)) (o + 1) (escaped d (drop (i + 1) s)) ≡ all
  put_one z e = rw (add-one o) (rw (escaped_more d s i h, escape_one d (get_or s i 0) z) at e)

  pub put_three : (l : ℕ) → l ≡ letter_for d (get_or s i 0) → (l ≡ 0 → ⊥) → sets out o (escaped d (drop i s)) ≡ all
      → sets (set (set (set out o d.escape) (o + 1) l) (o + 2) d.escape) (o + 3) (escaped d (drop (i + 1) s)) ≡ all
  put_three l k z e =
      rw (add-one o, add-two o, add-three o, k)
      (rw (escaped_more d s i h, escape_three d (get_or s i 0) (λ q. z (k ∙ q))) at e)

pub one_less : (d : Delimiters) (s : List ℕ) (i o t : ℕ) → i < length s → letter_for d (get_or s i 0) ≡ 0
    → o + length (escaped d (drop i s)) ≡ t → o + 1 + length (escaped d (drop (i + 1) s)) ≡ t
one_less d s i o t h z e = let l = ap length (escape_one d (get_or s i 0) z) in omega (arith, length_more d s i h, l, e)

pub three_less : (d : Delimiters) (s : List ℕ) (i o t : ℕ) → i < length s → (letter_for d (get_or s i 0) ≡ 0 → ⊥)
    → o + length (escaped d (drop i s)) ≡ t → o + 3 + length (escaped d (drop (i + 1) s)) ≡ t
three_less d s i o t h z e = let l = ap length (escape_three d (get_or s i 0) z) in omega (arith, length_more d s i h, l, e)

-- what each way out of escaping says
pub escape_bad : (d : Delimiters) (text out : List ℕ) → are_delimiters d ≡ false → Escaping d text out (Err BadDelimiters) out
unfolding escape_answer escaped_over
escape_bad d text out bad = record { answer = rw bad; after = rw bad }

module _ (d : Delimiters) (text out : List ℕ) (four : are_delimiters d ≡ true) where
  pub escape_short : leb (length (escaped d text)) (length out) ≡ false → Escaping d text out (Err NotFitting) out
  unfolding escape_answer escaped_over copied
  escape_short e =
      let over : leb (0 + length (escaped d text)) (length out) ≡ false = rw zero-add e in
      record { answer = rw (four, over); after = rw (four, over) }

  pub escape_done : {n : ℕ} {out' : List ℕ} → leb (length (escaped d text)) (length out) ≡ true → n ≡ length (escaped d text) → out' ≡ sets out 0 (escaped d text)
      → Escaping d text out (Ok n) out'
  unfolding escape_answer escaped_over copied
  escape_done e k h =
      let yes : leb (0 + length (escaped d text)) (length out) ≡ true = rw zero-add e in
      let fits : 0 + length (escaped d text) ≤ length out = leb-true (0 + length (escaped d text)) (length out) yes in
      record { answer = rw (four, yes, k); after = rw (four, yes) (h ∙ sets_splice out 0 (escaped d text) fits) }

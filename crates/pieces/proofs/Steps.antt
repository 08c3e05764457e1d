-- The pieces of a text, front to back, as a loop over its bytes meets them.
-- Assumes nothing.
use mathlib.Core.Path.{◌≡◌, refl, sym, ap, subst, ◌∙◌}
use mathlib.Core.Bool.{Bool, true, false, cond}
use mathlib.Core.List.{List, [], ◌∷◌, ◌++◌}
use Prim.Native.Nat.{ℕ, zero, suc, ◌+◌, ◌-◌, ◌≤◌, ◌<◌, min}
use native.Mathlib.Omega.{arith}
use native.Mathlib.Decide.{dec_lt}
use native.Mathlib.Numerals.{add-one, unary_clauses}
use borrow.Author.Tests.{eq-eqb, ne_eqb, eqb-true, ltb-true, ltb-false}
use lib.ListN.{length, get_or, take, drop, length-drop, length-take, drop_of_length-le}
use lib.Dec.{ltb}
use lib.Seq.{drop-drop, drop-cons, get_or-drop, get_or-take, take_all, take-add, take_at, drop_at, length-take-le}
use Rattle.memory.specs.Tests.{is, find}
use Rattle.characters.specs.Control.{cr}
use Rattle.frame.specs.Shape.{around_text}
use Rattle.frame.specs.Piece.{Piece, piece}
use Rattle.records.specs.Records.{onto, ends_with_cr}
use Rattle.frame.specs.declared.End.{End}
use Rattle.frame.specs.declared.End.TheVariants.{Etb}
use Rattle.records.proofs.Scans.{tail_at, rest_part}
use Rattle.pieces.specs.Pieces.{piece_size, records_with_cr, chunks_within, chunks, ended, cut_record, cut_all, pieces_of, end_after, through_cr, first_piece}

-- a text that ends with CR has a byte, and one that is not CR has another behind it
pub ended_some : (text : List ℕ) → ends_with_cr text ≡ true → 0 < length text
ended_some [] e = let z : ◌≡◌ {A = ℕ} 0 1 = cc in absurd (omega arith)
ended_some (b ∷ bs) e = omega arith

pub ended_next : (text : List ℕ) (n : ℕ) → ends_with_cr text ≡ true → n < length text → (get_or text n 0 ≡ cr → ⊥) → n + 1 < length text
ended_next text n e h other = by_place (ltb (n + 1) (length text)) refl
  where
    by_place : (a : Bool) → ltb (n + 1) (length text) ≡ a → n + 1 < length text
    by_place true p = ltb-true (n + 1) (length text) p
    by_place false p =
        let q : length text ≤ n + 1 = ltb-false (n + 1) (length text) p in
        let last : n ≡ length text - 1 = omega arith in
        absurd (other (ap (λ (i : ℕ). get_or text i 0) last ∙ eqb-true (get_or text (length text - 1) 0) cr e))

-- its part from a place on ends with CR too
pub ended_tail : (text : List ℕ) (at : ℕ) → ends_with_cr text ≡ true → at < length text → ends_with_cr (tail_at text at) ≡ true
ended_tail text at e h =
    let last : at + (length text - at - 1) ≡ length text - 1 = omega arith in
    rw (rest_part text at, length-drop at text, get_or-drop at text (length text - at - 1) 0, last) e

-- the scan for a CR that stands at n: it stops here, goes on, or has passed a whole piece
module _ (text : List ℕ) (size n : ℕ) where
  through_here : n < size → n < length text
      → through_cr (take (size - n) (drop n text)) ≡ cond (is cr (get_or text n 0)) 1 (suc (through_cr (take (size - (n + 1)) (drop (n + 1) text))))
  through_here h k = let e : size - n ≡ suc (size - suc n) = omega arith in rw (add-one n, e, drop-cons text n 0 k)

  pub through_stop : {r : ℕ} → n < size → n < length text → get_or text n 0 ≡ cr → n + through_cr (take (size - n) (drop n text)) ≡ r → n + 1 ≡ r
  through_stop h k t e = let z = rw (eq-eqb (get_or text n 0) cr t) at (through_here h k) in omega arith

  pub through_next : {r : ℕ} → n < size → n < length text → (get_or text n 0 ≡ cr → ⊥) → n + through_cr (take (size - n) (drop n text)) ≡ r
      → n + 1 + through_cr (take (size - (n + 1)) (drop (n + 1) text)) ≡ r
  through_next h k t e = let z = rw (ne_eqb (get_or text n 0) cr t) at (through_here h k) in omega arith

  pub through_all : {r : ℕ} → size ≡ n → n + through_cr (take (size - n) (drop n text)) ≡ r → n ≡ r
  through_all h e = let none : size - n ≡ 0 = omega arith in let z = rw none at e in omega arith

-- the same by the first CR's index
pub through_none : (s : List ℕ) → find (is cr) s ≡ length s → through_cr s ≡ find (is cr) s
through_none [] e = refl
through_none (b ∷ s) e = by_first (is cr b) e (through_none s)
  where
    by_first : (a : Bool) → cond a 0 (suc (find (is cr) s)) ≡ suc (length s) → (find (is cr) s ≡ length s → through_cr s ≡ find (is cr) s)
        → cond a 1 (suc (through_cr s)) ≡ cond a 0 (suc (find (is cr) s))
    by_first true e g = absurd (omega arith)
    by_first false e g = ap suc (g (omega arith))

pub through_found : (s : List ℕ) → (find (is cr) s ≡ length s → ⊥) → through_cr s ≡ find (is cr) s + 1
through_found [] e = absurd (e refl)
through_found (b ∷ s) e = by_first (is cr b) e (through_found s)
  where
    by_first : (a : Bool) → (cond a 0 (suc (find (is cr) s)) ≡ suc (length s) → ⊥) → ((find (is cr) s ≡ length s → ⊥) → through_cr s ≡ find (is cr) s + 1)
        → cond a 1 (suc (through_cr s)) ≡ cond a 0 (suc (find (is cr) s)) + 1
    by_first true e g = omega arith
    by_first false e g = let z = g (λ q. e (ap suc q)) in omega arith

-- the first `size` bytes, where there may be fewer
pub take_most : (size : ℕ) (s : List ℕ) → take (min size (length s)) s ≡ take size s
take_most zero s = simp unary_clauses
take_most (suc size) [] = simp unary_clauses
take_most (suc size) (b ∷ s) = simp unary_clauses (ap (λ (t : List ℕ). b ∷ t) (take_most size s))

pub through_most : (s : List ℕ) → through_cr s ≤ length s
through_most [] = omega arith
through_most (b ∷ s) = by_first (is cr b) (through_most s)
  where
    by_first : (a : Bool) → through_cr s ≤ length s → cond a 1 (suc (through_cr s)) ≤ suc (length s)
    by_first true g = omega arith
    by_first false g = omega arith

pub through_some : (s : List ℕ) → 0 < length s → 1 ≤ through_cr s
through_some [] h = absurd (omega arith)
through_some (b ∷ s) h = by_first (is cr b)
  where
    by_first : (a : Bool) → 1 ≤ cond a 1 (suc (through_cr s))
    by_first true = omega arith
    by_first false = omega arith

-- the first of a text's records with its CR
through_take : (size : ℕ) (text : List ℕ) → through_cr (take size text) ≡ min size (through_cr text)
through_take zero text = omega arith
through_take (suc size) [] = omega arith
through_take (suc size) (b ∷ bs) = by_first (is cr b) (through_take size bs)
  where
    by_first : (a : Bool) → through_cr (take size bs) ≡ min size (through_cr bs) → cond a 1 (suc (through_cr (take size bs))) ≡ min (suc size) (cond a 1 (suc (through_cr bs)))
    by_first true g = omega arith
    by_first false g = omega arith

-- a byte before its last is no CR, and behind such a byte its rest is the first
through_inner : (text : List ℕ) (j : ℕ) → j + 1 < through_cr text → is cr (get_or text j 0) ≡ false
through_inner [] j h = absurd (omega arith)
through_inner (b ∷ bs) zero h = by_first (is cr b) h
  where
    by_first : (a : Bool) → 0 + 1 < cond a 1 (suc (through_cr bs)) → a ≡ false
    by_first true h = absurd (omega arith)
    by_first false h = refl
through_inner (b ∷ bs) (suc j) h = by_first (is cr b) h (through_inner bs j)
  where
    by_first : (a : Bool) → suc j + 1 < cond a 1 (suc (through_cr bs)) → (j + 1 < through_cr bs → is cr (get_or bs j 0) ≡ false) → is cr (get_or bs j 0) ≡ false
    by_first true h g = absurd (omega arith)
    by_first false h g = g (omega arith)

through_drop : (text : List ℕ) (j : ℕ) → j < through_cr text → through_cr (drop j text) ≡ through_cr text - j
through_drop [] j h = absurd (omega arith)
through_drop (b ∷ bs) zero h = omega arith
through_drop (b ∷ bs) (suc j) h = by_first (is cr b) h (through_drop bs j)
  where
    by_first : (a : Bool) → suc j < cond a 1 (suc (through_cr bs)) → (j < through_cr bs → through_cr (drop j bs) ≡ through_cr bs - j) → through_cr (drop j bs) ≡ cond a 1 (suc (through_cr bs)) - suc j
    by_first true h g = absurd (omega arith)
    by_first false h g = let e = g (omega arith) in omega arith

first_record : (text : List ℕ) → 0 < length text → records_with_cr text ≡ take (through_cr text) text ∷ records_with_cr (drop (through_cr text) text)
first_record [] h = absurd (omega arith)
first_record (b ∷ []) h = by_first (is cr b)
  where
    by_first : (a : Bool) → cond a ((b ∷ []) ∷ []) ((b ∷ []) ∷ []) ≡ take (cond a 1 1) (b ∷ []) ∷ records_with_cr (drop (cond a 1 1) (b ∷ []))
    by_first true = refl
    by_first false = refl
first_record (b ∷ c ∷ cs) h = by_first (is cr b) (first_record (c ∷ cs) (omega arith))
  where
    k : ℕ
    k = through_cr (c ∷ cs)

    by_first : (a : Bool) → records_with_cr (c ∷ cs) ≡ take k (c ∷ cs) ∷ records_with_cr (drop k (c ∷ cs))
        → cond a ((b ∷ []) ∷ records_with_cr (c ∷ cs)) (onto b (records_with_cr (c ∷ cs))) ≡ take (cond a 1 (suc k)) (b ∷ c ∷ cs) ∷ records_with_cr (drop (cond a 1 (suc k)) (b ∷ c ∷ cs))
    by_first true g = refl
    by_first false g = ap (onto b) g

-- chunks, front to back
chunks_none : (most size : ℕ) → chunks_within most size [] ≡ []
chunks_none zero size = refl
chunks_none (suc most) size = refl

module _ (size : ℕ) (some : 1 ≤ size) where
  chunks_most : (m n : ℕ) (bs : List ℕ) → length bs ≤ m → length bs ≤ n → chunks_within m size bs ≡ chunks_within n size bs
  chunks_most zero n [] h k = sym (chunks_none n size)
  chunks_most zero n (b ∷ bs) h k = absurd (omega arith)
  chunks_most (suc m) n [] h k = sym (chunks_none n size)
  chunks_most (suc m) zero (b ∷ bs) h k = absurd (omega arith)
  chunks_most (suc m) (suc n) (b ∷ bs) h k =
      let less = length-drop size (b ∷ bs) in
      ap (λ (cs : List (List ℕ)). take size (b ∷ bs) ∷ cs) (chunks_most m n (drop size (b ∷ bs)) (omega arith) (omega arith))

  pub chunks_first : (bs : List ℕ) → 0 < length bs → chunks size bs ≡ take size bs ∷ chunks size (drop size bs)
  chunks_first [] h = absurd (omega arith)
  chunks_first (b ∷ bs) h =
      let less = length-drop size (b ∷ bs) in
      ap (λ (cs : List (List ℕ)). take size (b ∷ bs) ∷ cs) (chunks_most (length bs) (length (drop size (b ∷ bs))) (drop size (b ∷ bs)) (omega arith) (omega arith))

  chunks_some : (bs : List ℕ) → 0 < length bs → 0 < length (chunks size bs)
  chunks_some [] h = absurd (omega arith)
  chunks_some (b ∷ bs) h = omega arith

ended_first : (end : End) (c : List ℕ) (cs : List (List ℕ)) → 0 < length cs → ended end (c ∷ cs) ≡ piece Etb c ∷ ended end cs
ended_first end c [] h = absurd (omega arith)
ended_first end c (next ∷ cs) h = refl

-- a record that fits a piece is one, and of a longer one the first piece has as many bytes as fit
module _ (size : ℕ) (some : 1 ≤ size) (r : List ℕ) where
  record_fits : 0 < length r → length r ≤ size → cut_record size r ≡ piece (end_after (get_or r (length r - 1) 0)) r ∷ []
  record_fits h k =
      let end = end_after (get_or r (length r - 1) 0) in
      let one : chunks size r ≡ r ∷ [] = chunks_first size some r h ∙ rw (take_all size r k, drop_of_length-le r k) in
      ap (ended end) one

  record_longer : size < length r → cut_record size r ≡ piece Etb (take size r) ∷ cut_record size (drop size r)
  record_longer h =
      let end = end_after (get_or r (length r - 1) 0) in
      let left : length (drop size r) ≡ length r - size = length-drop size r in
      let last : size + (length r - size - 1) ≡ length r - 1 = omega arith in
      let same : get_or (drop size r) (length (drop size r) - 1) 0 ≡ get_or r (length r - 1) 0 = rw (left, get_or-drop size r (length r - size - 1) 0, last) in
      ap (ended end) (chunks_first size some r (omega arith))
      ∙ ended_first end (take size r) (chunks size (drop size r)) (chunks_some size some (drop size r) (omega arith))
      ∙ ap (λ (b : ℕ). piece Etb (take size r) ∷ ended (end_after b) (chunks size (drop size r))) (sym same)

-- the first piece of a text, and what comes behind it
module _ (size : ℕ) (some : 1 ≤ size) (text : List ℕ) (h : 0 < length text) where
  pieces_first : cut_all size (records_with_cr text) ≡ cut_record size (take (through_cr text) text) ++ cut_all size (records_with_cr (drop (through_cr text) text))
  pieces_first = ap (cut_all size) (first_record text h)

  -- where the first record fits
  whole_record : through_cr text ≤ size
      → cut_all size (records_with_cr text) ≡ first_piece (through_cr text) text ∷ cut_all size (records_with_cr (drop (through_cr text) text))
  whole_record k =
      let n = through_cr text in
      let least : 1 ≤ n = through_some text h in
      let most : n ≤ length text = through_most text in
      let long : length (take n text) ≡ n = length-take-le n text most in
      let last : get_or (take n text) (length (take n text) - 1) 0 ≡ get_or text (n - 1) 0 = rw long (get_or-take n text (n - 1) 0 (omega arith)) in
      let one = record_fits size some (take n text) (omega arith) (omega arith) in
      pieces_first
      ∙ ap (λ (ps : List Piece). ps ++ cut_all size (records_with_cr (drop n text))) (one ∙ ap (λ (b : ℕ). piece (end_after b) (take n text) ∷ []) last)

  -- where it does not
  part_record : (k : ℕ) → 1 ≤ k → through_cr text ≡ size + k → cut_all size (records_with_cr text) ≡ first_piece size text ∷ cut_all size (records_with_cr (drop size text))
  part_record k least e =
      let most : size + k ≤ length text = omega (arith, through_most text) in
      let long : length (take (size + k) text) ≡ size + k = length-take-le (size + k) text most in
      let begin : length (take size text) ≡ size = length-take-le size text (omega arith) in
      let halves : take (size + k) text ≡ take size text ++ take k (drop size text) = take-add size k text in
      let front : take size (take (size + k) text) ≡ take size text = rw halves (take_at (take size text) (take k (drop size text)) size begin) in
      let rest : drop size (take (size + k) text) ≡ take k (drop size text) = rw halves (drop_at (take size text) (take k (drop size text)) size begin) in
      let next : through_cr (drop size text) ≡ k = through_drop text size (omega arith) ∙ omega arith in
      let inner : is cr (get_or text (size - 1) 0) ≡ false = through_inner text (size - 1) (omega arith) in
      let etb : end_after (get_or text (size - 1) 0) ≡ Etb = rw inner in
      let behind : drop (size + k) text ≡ drop k (drop size text) = sym (drop-drop k size text) in
      let left = length-drop size text in
      let then =
      ap (cut_all size) (first_record (drop size text) (omega arith))
      ∙ ap (λ (n : ℕ). cut_record size (take n (drop size text)) ++ cut_all size (records_with_cr (drop n (drop size text)))) next in
      pieces_first
      ∙ ap (λ (n : ℕ). cut_record size (take n text) ++ cut_all size (records_with_cr (drop n text))) e
      ∙ ap (λ (ps : List Piece). ps ++ cut_all size (records_with_cr (drop (size + k) text))) (record_longer size some (take (size + k) text) (omega arith))
      ∙ (λ i. piece Etb (front i) ∷ (cut_record size (rest i) ++ cut_all size (records_with_cr (behind i))))
      ∙ ap (λ (ps : List Piece). piece Etb (take size text) ∷ ps) (sym then)
      ∙ ap (λ (end : End). piece end (take size text) ∷ cut_all size (records_with_cr (drop size text))) (sym etb)

  pub first_piece_law : cut_all size (records_with_cr text)
      ≡ first_piece (through_cr (take size text)) text ∷ cut_all size (records_with_cr (drop (through_cr (take size text)) text))
  first_piece_law =
      elim (dec_lt size (through_cr text)) [
        | yes p ↦ at (through_take size text ∙ omega arith) (part_record (through_cr text - size) (omega arith) (omega arith))
        | no p ↦ at (through_take size text ∙ omega arith) (whole_record (omega arith))
      ]
    where
      at : {n : ℕ} → through_cr (take size text) ≡ n → cut_all size (records_with_cr text) ≡ first_piece n text ∷ cut_all size (records_with_cr (drop n text))
          → cut_all size (records_with_cr text) ≡ first_piece (through_cr (take size text)) text ∷ cut_all size (records_with_cr (drop (through_cr (take size text)) text))
      at e c = c ∙ ap (λ (n : ℕ). first_piece n text ∷ cut_all size (records_with_cr (drop n text))) (sym e)

-- what holds of a text and its pieces if it holds piece by piece
module _ (size : ℕ) (some : 1 ≤ size) (Q : List ℕ → List Piece → Type 0) (nothing : Q [] [])
    (more : (text : List ℕ) (n : ℕ) → 1 ≤ n → n ≤ size → n ≤ length text → (ps : List Piece) → Q (drop n text) ps → Q text (first_piece n text ∷ ps)) where
  within : (most : ℕ) (text : List ℕ) → length text ≤ most → Q text (cut_all size (records_with_cr text))
  within zero [] h = nothing
  within zero (b ∷ bs) h = absurd (omega arith)
  within (suc most) [] h = nothing
  within (suc most) (b ∷ bs) h =
      let text = b ∷ bs in
      let n = through_cr (take size text) in
      let taken : length (take size text) ≡ min size (length text) = length-take size text in
      let least : 1 ≤ n = through_some (take size text) (omega arith) in
      let most_long : n ≤ length (take size text) = through_most (take size text) in
      let less = length-drop n text in
      subst (Q text) (sym (first_piece_law size some text (omega arith)))
      (more text n least (omega arith) (omega arith) (cut_all size (records_with_cr (drop n text))) (within most (drop n text) (omega arith)))

  pub by_pieces : (text : List ℕ) → Q text (cut_all size (records_with_cr text))
  by_pieces text = within (length text) text (omega arith)

-- a turn at `at`, whose piece has n bytes
pub record Turn (limit : ℕ) (text : List ℕ) (at n : ℕ) : Type 0 where
  pub some : 1 ≤ n
  pub within : at + n ≤ length text
  pub short : n + around_text ≤ limit
  pub cut : pieces_of limit (drop at text) ≡ first_piece n (tail_at text at) ∷ pieces_of limit (drop (at + n) text)

pub turn : (limit : ℕ) (text : List ℕ) (at n : ℕ) → around_text < limit → at < length text → n ≡ through_cr (take (piece_size limit) (tail_at text at)) → Turn limit text at n
unfolding pieces_of
turn limit text at n h k e =
    let tail = tail_at text at in
    let long : length tail ≡ length text - at = rw (rest_part, length-drop) in
    let most : through_cr (take (piece_size limit) tail) ≤ length (take (piece_size limit) tail) = through_most (take (piece_size limit) tail) in
    let taken : length (take (piece_size limit) tail) ≡ _ = length-take (piece_size limit) tail in
    let least : 1 ≤ through_cr (take (piece_size limit) tail) = through_some (take (piece_size limit) tail) (omega arith) in
    let first = first_piece_law (piece_size limit) (omega arith) tail (omega arith) in
    record {
      some = omega arith;
      within = omega arith;
      short = omega arith;
      cut =
          ap (pieces_of limit) (sym (rest_part text at))
          ∙ (rw (← e) at first)
          ∙ ap (λ (l : List ℕ). first_piece n tail ∷ pieces_of limit l) (ap (drop n) (rest_part text at) ∙ drop-drop n at text);
    }

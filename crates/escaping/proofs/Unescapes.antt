-- Unescaping, as a loop that looks two bytes ahead at an escape byte meets it.
-- Assumes nothing.
use Rattle.std.specs.Prelude.{Err, None, Ok, Option, Some, ℕ}
use Rattle.escaping.specs.declared.Refusal.TheVariants.{BadDelimiters, Malformed, NotFitting}
use mathlib.Core.Path.{◌≡◌, refl, sym, ap, subst, ◌∙◌}
use mathlib.Core.Bool.{Bool, true, false, cond, ◌||◌}
use mathlib.Core.List.{List, [], ◌∷◌}
use Prim.Native.Nat.{ℕ, suc, ◌+◌, ◌<◌, ◌≤◌}
use native.Mathlib.Numerals.{add-one, add-two, add-three}
use native.Mathlib.Omega.{arith}
use native.Mathlib.Decide.{ℕ_discrete, dec_lt}
use borrow.Author.Tests.{le-leb, lt-leb, eq-eqb, ne_eqb}
use lib.ListN.{length, get_or, drop, length-drop, drop_of_length-le}
use lib.Seq.{drop-cons, sets}
use lib.Dec.{leb, eqb}
use Rattle.memory.specs.Tests.{is, is_one_of}
use Rattle.memory.specs.Moves.{copied}
use Rattle.memory.proofs.Tests.{clash, never_both}
use Rattle.memory.proofs.Parts.{sets_splice}
use Rattle.kinds.specs.Delimiters.{are_delimiters}
use Rattle.kinds.specs.declared.Delimiters.{Delimiters}
use Rattle.escaping.specs.Letters.{letter_for, meant}
use Rattle.escaping.specs.Unescape.{itself, front, unescaped, behind_escape, unescape_answer, unescaped_over, Unescaping}
use Rattle.escaping.specs.Inner.Passes.{letters, size_of}

-- a byte in front of a text
pub front_some : (x : ℕ) (u : Option (List ℕ)) (t : List ℕ) → front (Some x) u ≡ Some t → (r : List ℕ) × (u ≡ Some r) × (t ≡ x ∷ r)
front_some x None t e = clash (cc)
front_some x (Some r) t e = (r, refl, cc)

front_none : (o : Option ℕ) (u : Option (List ℕ)) → o ≡ None → front o u ≡ None
front_none None u e = refl
front_none (Some x) u e = clash (cc)

-- a letter stands for a delimiter, and another byte for none
letter_of_law : (f s r e : Bool) (w x y z : ℕ) → f || (s || (r || (e || false))) ≡ true
    → (h : ℕ) × (cond f (Some w) (cond s (Some x) (cond r (Some y) (cond e (Some z) None))) ≡ Some h)
letter_of_law true s r e w x y z t = (w, refl)
letter_of_law false true r e w x y z t = (x, refl)
letter_of_law false false true e w x y z t = (y, refl)
letter_of_law false false false true w x y z t = (z, refl)
letter_of_law false false false false w x y z t = never_both true refl (sym t)

none_of : (f s r e : Bool) (w x y z : Option ℕ) → f || (s || (r || (e || false))) ≡ false → cond f w (cond s x (cond r y (cond e z None))) ≡ None
none_of true s r e w x y z t = never_both true refl t
none_of false true r e w x y z t = never_both true refl t
none_of false false true e w x y z t = never_both true refl t
none_of false false false true w x y z t = never_both true refl t
none_of false false false false w x y z t = refl

letter_meant : (d : Delimiters) (x : ℕ) → is_one_of letters x ≡ true → (h : ℕ) × (meant d x ≡ Some h)
unfolding meant
letter_meant d x t = letter_of_law (eqb x 0x46) (eqb x 0x53) (eqb x 0x52) (eqb x 0x45) d.field d.component d.repeat d.escape t

letter_none : (d : Delimiters) (x : ℕ) → is_one_of letters x ≡ false → meant d x ≡ None
unfolding meant
letter_none d x t = none_of (eqb x 0x46) (eqb x 0x53) (eqb x 0x52) (eqb x 0x45) _ _ _ _ t

-- a byte that is not the escape byte stands for itself just if it has no letter
by_letter : (f c r e : Bool) (w x y z b : ℕ) → e ≡ false → (w ≡ 0 → ⊥) → (x ≡ 0 → ⊥) → (y ≡ 0 → ⊥)
    → cond (eqb (cond f w (cond c x (cond r y (cond e z 0)))) 0) (Some b) None ≡ cond (f || (r || (c || false))) None (Some b)
by_letter f c r true w x y z b k p q s = never_both true refl k
by_letter true c r false w x y z b k p q s = rw (ne_eqb w 0 p)
by_letter false true true false w x y z b k p q s = rw (ne_eqb x 0 q)
by_letter false true false false w x y z b k p q s = rw (ne_eqb x 0 q)
by_letter false false true false w x y z b k p q s = rw (ne_eqb y 0 s)
by_letter false false false false w x y z b k p q s = refl

module _ (d : Delimiters) (b : ℕ) (other : b ≡ d.escape → ⊥) where
  itself_by : cond (eqb (letter_for d b) 0) (Some b) None ≡ itself d b
  unfolding letter_for
  itself_by = by_letter (is d.field b) (is d.component b) (is d.repeat b) (is d.escape b) 0x46 0x53 0x52 0x45 b (ne_eqb b d.escape other) (λ e. omega arith) (λ e. omega arith) (λ e. omega arith)

  pub is_itself : letter_for d b ≡ 0 → itself d b ≡ Some b
  is_itself l = sym itself_by ∙ rw (eq-eqb (letter_for d b) 0 l)

  pub is_bare : (letter_for d b ≡ 0 → ⊥) → itself d b ≡ None
  is_bare l = sym itself_by ∙ rw (ne_eqb (letter_for d b) 0 l)

-- an escape of a text: the escape byte, a letter and the escape byte
pub record EscapeAt (d : Delimiters) (s : List ℕ) (i : ℕ) : Type 0 where
  pub whole : i + 3 ≤ length s
  pub opens : get_or s i 0 ≡ d.escape
  pub letter : is_one_of letters (get_or s (i + 1) 0) ≡ true
  pub closes : get_or s (i + 2) 0 ≡ d.escape

-- at the end of the text
pub read_end : (d : Delimiters) (s : List ℕ) (i : ℕ) → length s ≤ i → unescaped d (drop i s) ≡ Some []
read_end d s i h = rw (drop_of_length-le s h)

behind_few : (d : Delimiters) (s : List ℕ) → length s ≤ 1 → behind_escape d s ≡ None
behind_few d [] h = refl
behind_few d (l ∷ []) h = refl
behind_few d (l ∷ b ∷ bs) h = absurd (omega arith)

module _ (d : Delimiters) (s : List ℕ) (i : ℕ) where
  read_byte : i < length s → unescaped d (drop i s) ≡ cond (is d.escape (get_or s i 0)) (behind_escape d (drop (i + 1) s)) (front (itself d (get_or s i 0)) (unescaped d (drop (i + 1) s)))
  read_byte h = rw (add-one, drop-cons s i 0)

  read_two : i + 2 < length s → behind_escape d (drop (i + 1) s) ≡ cond (is d.escape (get_or s (i + 2) 0)) (front (meant d (get_or s (i + 1) 0)) (unescaped d (drop (i + 3) s))) None
  read_two h =
      let one : suc i < length s = omega arith in
      let two : suc (suc i) < length s = omega arith in
      rw (add-one i, add-two i, add-three i, drop-cons s (suc i) 0 one, drop-cons s (suc (suc i)) 0 two)

  -- a byte that is no delimiter is itself, and a bare delimiter is refused
  module _ (h : i < length s) (other : get_or s i 0 ≡ d.escape → ⊥) where
    read_itself : {o : Option ℕ} → itself d (get_or s i 0) ≡ o → unescaped d (drop i s) ≡ front o (unescaped d (drop (i + 1) s))
    read_itself e = read_byte h ∙ rw (ne_eqb (get_or s i 0) d.escape other, e)

    pub itself_gives : letter_for d (get_or s i 0) ≡ 0 → unescaped d (drop i s) ≡ front (Some (get_or s i 0)) (unescaped d (drop (i + 1) s))
    itself_gives l = read_itself (is_itself d (get_or s i 0) other l)

    pub bare_refused : (letter_for d (get_or s i 0) ≡ 0 → ⊥) → unescaped d (drop i s) ≡ None
    bare_refused l = read_itself (is_bare d (get_or s i 0) other l)

    -- so where the text is accepted, a byte that is not the escape byte is itself
    pub itself_there : {t : List ℕ} → unescaped d (drop i s) ≡ Some t → letter_for d (get_or s i 0) ≡ 0
    itself_there r =
        elim (ℕ_discrete (letter_for d (get_or s i 0)) 0) [
          | yes l ↦ l
          | no l ↦ let n = bare_refused l in clash (cc)
        ]

  -- an escape gives the byte that its letter stands for, and goes on behind
  pub escape_gives : (x : ℕ) → EscapeAt d s i → meant d (get_or s (i + 1) 0) ≡ Some x → unescaped d (drop i s) ≡ front (Some x) (unescaped d (drop (i + 3) s))
  escape_gives x e k =
      let h : i < length s = omega arith in
      let two : i + 2 < length s = omega arith in
      read_byte h ∙ (rw (eq-eqb (get_or s i 0) d.escape e.opens) (read_two two ∙ rw (eq-eqb (get_or s (i + 2) 0) d.escape e.closes, k)))

  pub escape_one_byte : EscapeAt d s i → (x : ℕ) × (unescaped d (drop i s) ≡ front (Some x) (unescaped d (drop (i + 3) s)))
  escape_one_byte e =
      let (x, k) = letter_meant d (get_or s (i + 1) 0) e.letter in
      (x, escape_gives x e k)

  -- the escape byte is refused, or begins an escape
  module _ (h : i < length s) (o : get_or s i 0 ≡ d.escape) where
    opened : unescaped d (drop i s) ≡ behind_escape d (drop (i + 1) s)
    opened = read_byte h ∙ rw (eq-eqb (get_or s i 0) d.escape o)

    pub escape_there : (unescaped d (drop i s) ≡ None → ⊥) → EscapeAt d s i
    escape_there r =
        elim (dec_lt (i + 2) (length s)) [
          | no t ↦ let few : length (drop (i + 1) s) ≤ 1 = rw length-drop (omega arith) in absurd (r (opened ∙ behind_few d (drop (i + 1) s) few))
          | yes t ↦ elim (ℕ_discrete (get_or s (i + 2) 0) d.escape) [
            | no c ↦ absurd (r (opened ∙ read_two t ∙ rw (ne_eqb (get_or s (i + 2) 0) d.escape c)))
            | yes c ↦ by_test_law (is_one_of letters (get_or s (i + 1) 0)) refl t c
          ]
        ]
      where
        by_test_law : (b : Bool) → is_one_of letters (get_or s (i + 1) 0) ≡ b → i + 2 < length s → get_or s (i + 2) 0 ≡ d.escape → EscapeAt d s i
        by_test_law true l t c = record { whole = omega arith; opens = o; letter = l; closes = c }
        by_test_law false l t c = absurd (r (opened ∙ read_two t ∙ rw (eq-eqb (get_or s (i + 2) 0) d.escape c, letter_none d (get_or s (i + 1) 0) l)))

    pub no_escape : (EscapeAt d s i → ⊥) → unescaped d (drop i s) ≡ None
    no_escape n = by_read (unescaped d (drop i s)) (λ r. n (escape_there r))
      where
        by_read : (u : Option (List ℕ)) → ((u ≡ None → ⊥) → ⊥) → u ≡ None
        by_read None m = refl
        by_read (Some t) m = absurd (m (λ e. clash (cc)))

-- what the first pass has found, with k bytes passed
abbrev pub size_from : ℕ → Option (List ℕ) → Option ℕ
size_from k None = None
size_from k (Some t) = Some (k + length t)

pub size_start : (u : Option (List ℕ)) → size_from 0 u ≡ size_of u
size_start None = refl
size_start (Some t) = ap Some (omega arith)

size_front : (k x : ℕ) (u : Option (List ℕ)) → size_from k (front (Some x) u) ≡ size_from (k + 1) u
size_front k x None = refl
size_front k x (Some t) = ap Some (omega arith)

module _ (d : Delimiters) (s : List ℕ) (i k : ℕ) {m : Option ℕ} (e : size_from k (unescaped d (drop i s)) ≡ m) where
  pub size_wrong : unescaped d (drop i s) ≡ None → None ≡ m
  size_wrong r = sym (ap (size_from k) r) ∙ e

  pub size_next : (x j n : ℕ) → n ≡ k + 1 → unescaped d (drop i s) ≡ front (Some x) (unescaped d (drop j s)) → size_from n (unescaped d (drop j s)) ≡ m
  size_next x j n h r = ap (λ (q : ℕ). size_from q (unescaped d (drop j s))) h ∙ sym (size_front k x (unescaped d (drop j s))) ∙ sym (ap (size_from k) r) ∙ e

  pub size_end : length s ≤ i → Some k ≡ m
  size_end h = ap Some (omega arith) ∙ sym (ap (size_from k) (read_end d s i h)) ∙ e

-- what the first pass tells
pub size_told : (u : Option (List ℕ)) (n : ℕ) → size_of u ≡ Some n → (t : List ℕ) × (u ≡ Some t) × (n ≡ length t)
size_told None n e = clash (cc)
size_told (Some t) n e = (t, refl, cc)

pub size_none : (u : Option (List ℕ)) → size_of u ≡ None → u ≡ None
size_none None e = refl
size_none (Some t) e = clash (cc)

-- a component that is accepted, byte by byte and escape by escape, and the text that it stands for
pub data Reads (d : Delimiters) : List ℕ → List ℕ → Type 0 where
  nothing : Reads d [] []
  byte : {b : ℕ} {c t : List ℕ} → (b ≡ d.escape → ⊥) → letter_for d b ≡ 0 → Reads d c t → Reads d (b ∷ c) (b ∷ t)
  escape : {a l b x : ℕ} {c t : List ℕ} → a ≡ d.escape → b ≡ d.escape → meant d l ≡ Some x → Reads d c t → Reads d (a ∷ l ∷ b ∷ c) (x ∷ t)

module _ (d : Delimiters) where
  -- where it was read on behind a byte that is itself, or behind an escape
  reads_byte : (b : ℕ) (c t : List ℕ) → (b ≡ d.escape → ⊥) → ((r : List ℕ) → unescaped d c ≡ Some r → Reads d c r) → front (itself d b) (unescaped d c) ≡ Some t → Reads d (b ∷ c) t
  reads_byte b c t other rest e =
      elim (ℕ_discrete (letter_for d b) 0) [
        | no l ↦ let k = front_none (itself d b) (unescaped d c) (is_bare d b other l) in clash (cc)
        | yes l ↦ let (r, u, k) = front_some b (unescaped d c) t (rw (is_itself d b other l) at e) in subst (Reads d (b ∷ c)) (sym k) (byte other l (rest r u))
      ]

  reads_escape : (a l b : ℕ) (c t : List ℕ) → a ≡ d.escape → b ≡ d.escape → ((r : List ℕ) → unescaped d c ≡ Some r → Reads d c r)
      → (o : Option ℕ) → meant d l ≡ o → front o (unescaped d c) ≡ Some t → Reads d (a ∷ l ∷ b ∷ c) t
  reads_escape a l b c t p q rest None m e = clash (cc)
  reads_escape a l b c t p q rest (Some x) m e = let (r, u, k) = front_some x (unescaped d c) t e in subst (Reads d (a ∷ l ∷ b ∷ c)) (sym k) (escape p q m (rest r u))

  -- every component that is accepted is so read
  mutual
    pub reads : (c t : List ℕ) → unescaped d c ≡ Some t → Reads d c t
    reads [] t e = let k : [] ≡ t = cc in subst (Reads d []) k nothing
    reads (b ∷ c) t e =
        elim (ℕ_discrete b d.escape) [
          | yes p ↦ behind_reads c b t p (rw (eq-eqb b d.escape p) at e)
          | no p ↦ reads_byte b c t p (λ r u. reads c r u) (rw (ne_eqb b d.escape p) at e)
        ]

    behind_reads : (c : List ℕ) (a : ℕ) (t : List ℕ) → a ≡ d.escape → behind_escape d c ≡ Some t → Reads d (a ∷ c) t
    behind_reads [] a t p e = clash (cc)
    behind_reads (l ∷ []) a t p e = clash (cc)
    behind_reads (l ∷ b ∷ c) a t p e =
        elim (ℕ_discrete b d.escape) [
          | yes q ↦ reads_escape a l b c t p q (λ r u. reads c r u) (meant d l) refl (rw (eq-eqb b d.escape q) at e)
          | no q ↦ let k = rw (ne_eqb b d.escape q) at e in clash (cc)
        ]

-- the text is never longer than the component, and where it is as long, it is the component
pub shorter : {d : Delimiters} {c t : List ℕ} → Reads d c t → length t ≤ length c
shorter nothing = omega arith
shorter (byte o l r) = omega (arith, shorter r)
shorter (escape p q m r) = omega (arith, shorter r)

pub as_long : {d : Delimiters} {c t : List ℕ} → Reads d c t → length t ≡ length c → t ≡ c
as_long nothing e = refl
as_long (byte {b} o l r) e = ap (λ (s : List ℕ). b ∷ s) (as_long r (omega arith))
as_long (escape p q m r) e = absurd (omega (arith, shorter r))

-- what each way out of unescaping says
pub unescape_bad : (d : Delimiters) (c out : List ℕ) → are_delimiters d ≡ false → Unescaping d c out (Err BadDelimiters) out
unfolding unescape_answer unescaped_over
unescape_bad d c out bad = record { answer = rw bad; after = rw bad }

module _ (d : Delimiters) (c out : List ℕ) (four : are_delimiters d ≡ true) where
  pub unescape_malformed : unescaped d c ≡ None → Unescaping d c out (Err Malformed) out
  unfolding unescape_answer unescaped_over
  unescape_malformed e = record { answer = rw (four, e); after = rw (four, e) }

  module _ (t : List ℕ) (n : ℕ) (e : unescaped d c ≡ Some t) (k : n ≡ length t) where
    pub unescape_short : length out < n → Unescaping d c out (Err NotFitting) out
    unfolding unescape_answer unescaped_over copied
    unescape_short h =
        let over : leb (0 + length t) (length out) ≡ false = lt-leb (0 + length t) (length out) (omega arith) in
        record { answer = rw (four, e, over); after = rw (four, e, over) }

    pub unescape_done : {out' : List ℕ} → n ≤ length out → out' ≡ sets out 0 t → Unescaping d c out (Ok n) out'
    unfolding unescape_answer unescaped_over copied
    unescape_done h w =
        let fits : 0 + length t ≤ length out = omega arith in
        let yes : leb (0 + length t) (length out) ≡ true = le-leb (0 + length t) (length out) fits in
        record { answer = rw (four, e, yes, k); after = rw (four, e, yes) (w ∙ sets_splice out 0 t fits) }

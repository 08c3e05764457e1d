-- What the bytes at the start of a text that ends with CR tell of its first record, before the end of that is known.
-- Assumes nothing.
use Rattle.std.specs.Prelude.{None, Option, Some}
use Rattle.std.proofs.Common.{◌≡◌, ℕ, suc, ◌+◌, ◌<◌, ◌≤◌, min, Bool, true, false, cond, not, eqb, List, [], ◌∷◌, length, get_or, take, drop, sym, refl, ap, ◌∙◌, arith, drop_of_length-le, get_or-take, take-take, ne_eqb, eq-eqb, eqb-true}
use native.Mathlib.Decide.{dec_lt}
use Rattle.memory.specs.Tests.{is, find}
use Rattle.memory.proofs.Tests.{and_not_right, find_le, find_next, never_both}
use Rattle.characters.specs.Control.{cr}
use Rattle.characters.specs.Allowed.{allowed, ordinary}
use Rattle.kinds.specs.Kinds.{letter_of, kind_of, type_of, may_follow}
use Rattle.records.specs.Fields.{before, behind}
use Rattle.records.specs.Records.{ends_with_cr}
use Rattle.sequence.specs.Numbers.{number_of, count_of, counted}
use Rattle.faults.specs.Message.{type_in, number_in, is_next, next_counts}
use Rattle.faults.specs.Inner.Next.{comes, counts_behind}
use Rattle.message.specs.Inner.Rest.{breaks}
use Rattle.kinds.specs.declared.Delimiters.{Delimiters}
use Rattle.sequence.specs.declared.Counts.{Counts}
use Rattle.kinds.specs.declared.Kind.{Kind}
use Rattle.kinds.specs.declared.Kind.TheVariants.{Header, Patient, Order, Result, Query, Terminator, Comment, Manufacturer}
use Rattle.sequence.proofs.Decimal.{number_none}
use Rattle.records.proofs.Scans.{tail_at, rest_part, find_hit, find_upto, before_length, before_first}
use Rattle.kinds.proofs.Naming.{letter}
use Rattle.faults.proofs.Head.{find_window, known_second}
use Rattle.message.proofs.Breaks.{cr_some, cr_within, not_last, ordinary_plain, unbroken}

-- CR names no type
pub cr_names_none : (b : ℕ) → is cr b ≡ true → kind_of b ≡ None
unfolding kind_of
cr_names_none b e = rw (eqb-true b cr e)

-- and a byte that names one is ordinary
letters_ordinary : (k : Kind) → ordinary (letter_of k) ≡ true
unfolding ordinary allowed
letters_ordinary Header = refl
letters_ordinary Patient = refl
letters_ordinary Order = refl
letters_ordinary Result = refl
letters_ordinary Query = refl
letters_ordinary Terminator = refl
letters_ordinary Comment = refl
letters_ordinary Manufacturer = refl

names_ordinary : (b : ℕ) (k : Kind) → kind_of b ≡ Some k → ordinary b ≡ true
unfolding kind_of
names_ordinary b k h =
    or Header _ (or Patient _ (or Order _ (or Result _ (or Query _ (or Terminator _ (or Comment _ (or Manufacturer _ none))))))) h
  where
    none : None ≡ Some k → ordinary b ≡ true
    none e = let z : ◌≡◌ {A = ℕ} 0 1 = cc in absurd (omega arith)

    or : (j : Kind) (l : Option Kind) → (l ≡ Some k → ordinary b ≡ true) → cond (is (letter_of j) b) (Some j) l ≡ Some k → ordinary b ≡ true
    or j l go = by_test_law (is (letter_of j) b) refl
      where
        by_test_law : (t : Bool) → is (letter_of j) b ≡ t → cond t (Some j) l ≡ Some k → ordinary b ≡ true
        by_test_law true e g = ap ordinary (eqb-true b (letter_of j) e) ∙ letters_ordinary j
        by_test_law false e g = go g

-- so it is not the last of a text that ends with CR
pub second_byte : (s : List ℕ) → ends_with_cr s ≡ true → (k : Kind) → kind_of (get_or s 0 0) ≡ Some k → 1 < length s
second_byte s ends k h = not_last s ends 0 (cr_some s ends) (unbroken (get_or s 0 0) (ap not (names_ordinary (get_or s 0 0) k h))).1

-- what is before the first b names a type exactly if b stands at index 1 and the first byte names it
module _ (b : ℕ) (s : List ℕ) where
  pub type_unknown : kind_of (get_or s 0 0) ≡ None → type_of (before b s) ≡ None
  unfolding type_of
  type_unknown h = by_length (eqb (length (before b s)) 1) refl
    where
      by_length : (t : Bool) → eqb (length (before b s)) 1 ≡ t → cond t (kind_of (get_or (before b s) 0 0)) None ≡ None
      by_length true e = ap kind_of (before_first b s (sym (before_length b s) ∙ eqb-true (length (before b s)) 1 e)) ∙ h
      by_length false e = refl

  pub type_long : (find (is b) s ≡ 1 → ⊥) → type_of (before b s) ≡ None
  unfolding type_of
  type_long n = rw (before_length b s, ne_eqb (find (is b) s) 1 n)

  pub type_named : find (is b) s ≡ 1 → type_of (before b s) ≡ kind_of (get_or s 0 0)
  unfolding type_of
  type_named one = rw (before_length b s, before_first b s one, one)

  pub b_first : is b (get_or s 0 0) ≡ true → find (is b) s ≡ 1 → ⊥
  b_first h e = omega (arith, find_upto (is b) s 0 h)

  pub b_later : 1 < length s → is b (get_or s 1 0) ≡ false → find (is b) s ≡ 1 → ⊥
  b_later l h e =
      let lt : find (is b) s < length s = omega arith in
      never_both (is b (get_or s 1 0)) (rw e at (find_hit (is b) s lt)) h

  pub b_second : 1 < length s → is b (get_or s 0 0) ≡ false → is b (get_or s 1 0) ≡ true → find (is b) s ≡ 1
  b_second l h t =
      let le : find (is b) s ≤ 1 = find_upto (is b) s 1 t in
      elim (dec_lt 0 (find (is b) s)) [
        | yes p ↦ omega arith
        | no p ↦
            let z : find (is b) s ≡ 0 = omega arith in
            let lt : find (is b) s < length s = omega arith in
            never_both (is b (get_or s 0 0)) (rw z at (find_hit (is b) s lt)) h
      ]

  -- and that is what a text says that ends with CR
  pub type_here : ends_with_cr s ≡ true → {k : Kind} → kind_of (get_or s 0 0) ≡ Some k → (get_or s 0 0 ≡ b → ⊥) → get_or s 1 0 ≡ b → type_of (before b s) ≡ Some k
  type_here ends {k} named first second =
      let one = b_second (second_byte s ends k named) (ne_eqb (get_or s 0 0) b first) (eq-eqb (get_or s 1 0) b second) in
      type_named one ∙ named

-- the first field of the first record
abbrev pub field_at : ℕ → List ℕ → List ℕ
field_at b s = before b (before cr s)

-- a scan that stands at i within it or at its end: a b or a CR here is the end, and any other byte is the field's
module _ (b : ℕ) (s : List ℕ) (ends : ends_with_cr s ≡ true) (i : ℕ) (h : i ≤ length (field_at b s)) where
  long : length (field_at b s) ≡ min (find (is cr) s) (find (is b) s)
  long = before_length b (before cr s) ∙ find_window (is b) (find (is cr) s) s

  pub field_within : i < length s
  field_within = omega (arith, long, cr_within s ends)

  pub ends_at_b : is b (get_or s i 0) ≡ true → i ≡ length (field_at b s)
  ends_at_b t = omega (arith, long, find_upto (is b) s i t)

  pub ends_at_cr : is cr (get_or s i 0) ≡ true → i ≡ length (field_at b s)
  ends_at_cr t = omega (arith, long, find_upto (is cr) s i t)

  pub field_goes : is b (get_or s i 0) ≡ false → is cr (get_or s i 0) ≡ false → i < length (field_at b s)
  field_goes n c =
      elim (dec_lt i (length (field_at b s))) [
        | yes lt ↦ lt
        | no ge ↦
            elim (dec_lt (find (is b) s) (find (is cr) s)) [
              | yes p ↦
                  let same : find (is b) s ≡ i = omega (arith, long) in
                  let lt : find (is b) s < length s = omega (arith, cr_within s ends) in
                  never_both (is b (get_or s i 0)) (rw same at (find_hit (is b) s lt)) n
              | no p ↦
                  let same : find (is cr) s ≡ i = omega (arith, long) in
                  never_both (is cr (get_or s i 0)) (rw same at (find_hit (is cr) s (cr_within s ends))) c
            ]
      ]

  pub field_byte : i < length (field_at b s) → get_or (field_at b s) i 0 ≡ get_or s i 0
  field_byte lt =
      let lt₁ : i < find (is b) (before cr s) = omega (arith, before_length b (before cr s)) in
      let lt₂ : i < find (is cr) s = omega (arith, long) in
      get_or-take (find (is b) (before cr s)) (before cr s) i 0 lt₁ ∙ get_or-take (find (is cr) s) s i 0 lt₂

  -- a digit is the field's
  pub digit_byte : is b (get_or s i 0) ≡ false → (v : ℕ) → v + 0x30 ≡ get_or s i 0 → v < 10 → (i < length (field_at b s)) × (v + 0x30 ≡ get_or (field_at b s) i 0)
  digit_byte n v e below =
      let lt = field_goes n (ne_eqb (get_or s i 0) cr (λ q. omega arith)) in
      (lt, e ∙ sym (field_byte lt))

-- field 1 of the record ends where the first b stands in the text, if that is before the CR
first_field : (b : ℕ) (s : List ℕ) → find (is b) s < find (is cr) s → field_at b s ≡ before b s
first_field b s lt =
    let m : find (is b) (before cr s) ≡ find (is b) s = find_window (is b) (find (is cr) s) s ∙ omega arith in
    rw m (take-take (find (is b) s) (find (is cr) s) s (omega arith))

-- no b before the CR: there is no field 2
no_second : (b : ℕ) (s : List ℕ) → find (is cr) s ≤ find (is b) s → behind b (before cr s) ≡ []
no_second b s le =
    let m : find (is b) (before cr s) ≡ min (find (is cr) s) (find (is b) s) = find_window (is b) (find (is cr) s) s in
    let k : length (before cr s) ≤ find (is b) (before cr s) + 1 = omega (arith, before_length cr s) in
    drop_of_length-le (before cr s) k

-- a record without a number may not come next
numberless : (s : Counts) (l : Option Kind) → is_next s l 0 ≡ false
numberless s None = refl
numberless s (Some k) = and_not_right (may_follow s.other k) (eqb 0 (count_of s k + 1)) (ne_eqb 0 (count_of s k + 1) (λ e. omega arith))

two_behind : (p : ℕ → Bool) (s : List ℕ) → 1 < find p s → drop 2 (take (find p s) s) ≡ take (find p (drop 2 s)) (drop 2 s)
two_behind p [] h = absurd (omega arith)
two_behind p (x ∷ []) h = let le : find p (x ∷ []) ≤ 1 = find_le p (x ∷ []) in absurd (omega arith)
two_behind p (x ∷ y ∷ t) h = by_first (p x) (p y) h
  where
    by_first : (a b : Bool) → 1 < cond a 0 (suc (cond b 0 (suc (find p t)))) → drop 2 (take (cond a 0 (suc (cond b 0 (suc (find p t))))) (x ∷ y ∷ t)) ≡ take (find p t) t
    by_first true b k = absurd (omega arith)
    by_first false true k = absurd (omega arith)
    by_first false false k = refl

-- what is said of a type and a number is said of those that were read
read_as : {A : Type 0} (f : Option Kind → ℕ → A) {l m : Option Kind} {n k : ℕ} → l ≡ m → n ≡ k → f l n ≡ f m k
read_as f {l} {m} {n} {k} p q = ap (λ (x : Option Kind). f x n) p ∙ ap (f m) q

-- the first record's type and number, by what stands before the first b of the text
module _ (d : Delimiters) (text : List ℕ) (ends : ends_with_cr text ≡ true) where
  pub untyped : (s : Counts) → type_of (before d.field text) ≡ None → comes d s (before cr text) ≡ false
  untyped s h =
      let b = d.field in
      elim (dec_lt (find (is b) text) (find (is cr) text)) [
        | yes lt ↦ rw (first_field b text lt, h)
        | no ge ↦
            let le : find (is cr) text ≤ find (is b) text = omega arith in
            let none : 0 ≡ number_of (before b (behind b (before cr text))) = rw (no_second b text le) (number_none [] refl) in
            rw (← none) (numberless s (type_of (field_at b text)))
      ]

  module _ (plain : d.field ≡ cr → ⊥) (k : Kind) (h : type_of (before d.field text) ≡ Some k) where
    at_one : find (is d.field) text ≡ 1
    at_one = sym (before_length d.field text) ∙ (letter (before d.field text) k h).0

    first_names : kind_of (get_or text 0 0) ≡ Some k
    first_names = sym (type_named d.field text at_one) ∙ h

    second_is : 1 < length text → get_or text 1 0 ≡ d.field
    second_is l =
        let lt : find (is d.field) text < length text = omega (arith, at_one) in
        eqb-true (get_or text 1 0) d.field (rw at_one at (find_hit (is d.field) text lt))

    cr_later : 1 < find (is cr) text
    cr_later =
        let hit : is cr (get_or text (find (is cr) text) 0) ≡ true = find_hit (is cr) text (cr_within text ends) in
        elim (dec_lt 1 (find (is cr) text)) [
          | yes lt ↦ lt
          | no ge ↦
              elim (dec_lt 0 (find (is cr) text)) [
                | yes some ↦
                    let same : find (is cr) text ≡ 1 = omega arith in
                    let second : is cr (get_or text 1 0) ≡ true = rw same at hit in
                    absurd (plain (sym (second_is (omega (arith, cr_within text ends))) ∙ eqb-true (get_or text 1 0) cr second))
                | no none ↦
                    let same : find (is cr) text ≡ 0 = omega arith in
                    let unnamed : kind_of (get_or text 0 0) ≡ None = cr_names_none (get_or text 0 0) (rw same at hit) in
                    let named = first_names in
                    let z : ◌≡◌ {A = ℕ} 0 1 = cc in
                    absurd (omega arith)
              ]
        ]

    pub three_bytes : 2 < length text
    three_bytes = omega (arith, cr_later, cr_within text ends)

    -- neither its type nor the delimiter breaks the record off
    two_passed : ordinary d.field ≡ true → 2 + find breaks (drop 2 text) ≡ find breaks text
    two_passed o =
        let first : breaks (get_or text 0 0) ≡ false = ap not (names_ordinary (get_or text 0 0) k first_names) in
        let second : breaks (get_or text 1 0) ≡ false = ap breaks (second_is (omega (arith, three_bytes))) ∙ ap not o in
        find_next breaks text 1 (omega (arith, three_bytes)) second (find_next breaks text 0 (omega (arith, three_bytes)) first (omega arith))

    pub type_is : type_in d (before cr text) ≡ Some k
    type_is =
        let lt : find (is d.field) text < find (is cr) text = omega (arith, at_one, cr_later) in
        ap type_of (first_field d.field text lt) ∙ h

    pub number_is : number_in d (before cr text) ≡ number_of (field_at d.field (tail_at text 2))
    number_is =
        ap number_of (known_second d.field (before cr text) k type_is) ∙ ap (λ (f : List ℕ). number_of (before d.field f)) (two_behind (is cr) text cr_later)
        ∙ ap (λ (l : List ℕ). number_of (field_at d.field l)) (sym (rest_part text 2))

    -- the record as it was read
    pub comes_as : (s : Counts) → comes d s (before cr text) ≡ is_next s (Some k) (number_of (field_at d.field (tail_at text 2)))
    comes_as s = read_as (is_next s) type_is number_is

    pub counts_as : (s : Counts) {n : ℕ} → n ≡ number_of (field_at d.field (tail_at text 2)) → counts_behind d s (before cr text) ≡ counted s k n
    counts_as s e = read_as (next_counts s) type_is (number_is ∙ sym e)

-- so a record that may come next is broken off behind them
pub next_passes : (d : Delimiters) (text : List ℕ) → ends_with_cr text ≡ true → ordinary d.field ≡ true
    → (s : Counts) → comes d s (before cr text) ≡ true
    → (2 < length text) × (2 + find breaks (drop 2 text) ≡ find breaks text)
next_passes d text ends o s next = by_type (type_of (before d.field text)) refl
  where
    by_type : (l : Option Kind) → type_of (before d.field text) ≡ l → (2 < length text) × (2 + find breaks (drop 2 text) ≡ find breaks text)
    by_type None e = never_both (comes d s (before cr text)) next (untyped d text ends s e)
    by_type (Some k) e =
        let plain = ordinary_plain d.field o in
        (three_bytes d text ends plain k e, two_passed d text ends plain k e o)

-- The two round trips, over any four different delimiters: a text that is escaped and unescaped comes back, and so does a component that is taken, unescaped and escaped.
-- Assumes nothing.
use Rattle.std.specs.Prelude.{Some}
use mathlib.Core.Path.{◌≡◌, refl, sym, ap, ◌∙◌}
use mathlib.Core.Bool.{true, not}
use mathlib.Core.List.{List, [], ◌∷◌, ◌++◌}
use Prim.Native.Nat.{ℕ, ◌*◌, ◌≤◌}
use native.Mathlib.Omega.{arith}
use native.Mathlib.Decide.{ℕ_discrete}
use lib.Dec.{eqb}
use lib.ListN.{length, length-append}
use borrow.Author.Tests.{eq-eqb, ne_eqb, not-true}
use Rattle.memory.proofs.Tests.{clash, never_both, six}
use Rattle.kinds.specs.Delimiters.{different, are_delimiters}
use Rattle.kinds.specs.declared.Delimiters.{Delimiters}
use Rattle.kinds.proofs.Allowed.{allowed_different}
use Rattle.escaping.specs.Letters.{letter_for, meant}
use Rattle.escaping.specs.Escape.{escape_of, escaped}
use Rattle.escaping.specs.Unescape.{front, unescaped}
use Rattle.escaping.proofs.Escapes.{escape_one, escape_three}
use Rattle.escaping.proofs.Unescapes.{Reads, nothing, byte, escape, reads}

-- one byte, escaped and read again
there : (d : Delimiters) (x : ℕ) (rest : List ℕ) → unescaped d (escape_of d x ++ rest) ≡ front (Some x) (unescaped d rest)
unfolding letter_for escape_of meant
there d x rest =
    let e = eq-eqb d.escape d.escape refl in
    elim (ℕ_discrete x d.field) [
      | yes p ↦ simp (eq-eqb x d.field p, e) (ap (λ (y : ℕ). front (Some y) (unescaped d rest)) (sym p))
      | no p₁ ↦ let n₁ = ne_eqb x d.field p₁ in elim (ℕ_discrete x d.component) [
        | yes p ↦ simp (n₁, eq-eqb x d.component p, e) (ap (λ (y : ℕ). front (Some y) (unescaped d rest)) (sym p))
        | no p₂ ↦ let n₂ = ne_eqb x d.component p₂ in elim (ℕ_discrete x d.repeat) [
          | yes p ↦ simp (n₁, n₂, eq-eqb x d.repeat p, e) (ap (λ (y : ℕ). front (Some y) (unescaped d rest)) (sym p))
          | no p₃ ↦ let n₃ = ne_eqb x d.repeat p₃ in elim (ℕ_discrete x d.escape) [
            | yes p ↦ simp (n₁, n₂, n₃, eq-eqb x d.escape p, e) (ap (λ (y : ℕ). front (Some y) (unescaped d rest)) (sym p))
            | no p₄ ↦ simp (n₁, n₂, n₃, ne_eqb x d.escape p₄)
          ]
        ]
      ]
    ]

-- what was escaped is accepted, and stands for the text again; for this the delimiters need not be different
pub escaped_plain : (d : Delimiters) (t : List ℕ) → unescaped d (escaped d t) ≡ Some t
escaped_plain d [] = refl
escaped_plain d (x ∷ t) = there d x (escaped d t) ∙ ap (front (Some x)) (escaped_plain d t)

-- the letter of each delimiter
module _ (d : Delimiters) (good : different d ≡ true) where
  pairs : (not (eqb d.repeat d.field) ≡ true) × (not (eqb d.component d.field) ≡ true) × (not (eqb d.escape d.field) ≡ true)
      × (not (eqb d.component d.repeat) ≡ true) × (not (eqb d.escape d.repeat) ≡ true) × (not (eqb d.escape d.component) ≡ true)
  unfolding different
  pairs =
      six (not (eqb d.repeat d.field)) (not (eqb d.component d.field)) (not (eqb d.escape d.field)) (not (eqb d.component d.repeat))
      (not (eqb d.escape d.repeat)) (not (eqb d.escape d.component)) good

  letter_component : letter_for d d.component ≡ 0x53
  unfolding letter_for
  letter_component = let (rf, cf, ef, cr, er, ec) = pairs in rw (not-true (eqb d.component d.field) cf, eq-eqb d.component d.component refl)

  letter_repeat : letter_for d d.repeat ≡ 0x52
  unfolding letter_for
  letter_repeat =
      let (rf, cf, ef, cr, er, ec) = pairs in
      let rc : (d.repeat ≡ d.component → ⊥) = λ e. never_both (eqb d.component d.repeat) (eq-eqb d.component d.repeat (sym e)) (not-true (eqb d.component d.repeat) cr) in
      rw (not-true (eqb d.repeat d.field) rf, ne_eqb d.repeat d.component rc, eq-eqb d.repeat d.repeat refl)

  letter_escape : letter_for d d.escape ≡ 0x45
  unfolding letter_for
  letter_escape =
      let (rf, cf, ef, cr, er, ec) = pairs in
      rw (not-true (eqb d.escape d.field) ef, not-true (eqb d.escape d.component) ec, not-true (eqb d.escape d.repeat) er, eq-eqb d.escape d.escape refl)

letter_field : (d : Delimiters) → letter_for d d.field ≡ 0x46
unfolding letter_for
letter_field d = rw (eq-eqb d.field d.field refl)

-- the letter of a delimiter that a letter stands for is that letter
module _ (d : Delimiters) (good : different d ≡ true) where
  letter_back : (l x y : ℕ) → l ≡ y → letter_for d x ≡ y → (y ≡ 0 → ⊥) → (letter_for d x ≡ l) × (letter_for d x ≡ 0 → ⊥)
  letter_back l x y p e z = (e ∙ sym p, λ k. z (sym e ∙ k))

  meant_letter : (l x : ℕ) → meant d l ≡ Some x → (letter_for d x ≡ l) × (letter_for d x ≡ 0 → ⊥)
  unfolding meant
  meant_letter l x m =
      elim (ℕ_discrete l 0x46) [
        | yes p ↦ let k : d.field ≡ x = (let f = rw (eq-eqb l 0x46 p) at m in cc) in letter_back l x 0x46 p (ap (letter_for d) (sym k) ∙ letter_field d) (λ e. omega arith)
        | no p₁ ↦ let n₁ = ne_eqb l 0x46 p₁ in elim (ℕ_discrete l 0x53) [
          | yes p ↦ let k : d.component ≡ x = (let f = rw (n₁, eq-eqb l 0x53 p) at m in cc) in letter_back l x 0x53 p (ap (letter_for d) (sym k) ∙ letter_component d good) (λ e. omega arith)
          | no p₂ ↦ let n₂ = ne_eqb l 0x53 p₂ in elim (ℕ_discrete l 0x52) [
            | yes p ↦ let k : d.repeat ≡ x = (let f = rw (n₁, n₂, eq-eqb l 0x52 p) at m in cc) in letter_back l x 0x52 p (ap (letter_for d) (sym k) ∙ letter_repeat d good) (λ e. omega arith)
            | no p₃ ↦ let n₃ = ne_eqb l 0x52 p₃ in elim (ℕ_discrete l 0x45) [
              | yes p ↦ let k : d.escape ≡ x = (let f = rw (n₁, n₂, n₃, eq-eqb l 0x45 p) at m in cc) in letter_back l x 0x45 p (ap (letter_for d) (sym k) ∙ letter_escape d good) (λ e. omega arith)
              | no p₄ ↦ let f = rw (n₁, n₂, n₃, ne_eqb l 0x45 p₄) at m in clash (cc)
            ]
          ]
        ]
      ]

  back : {c t : List ℕ} → Reads d c t → escaped d t ≡ c
  back nothing = refl
  back (byte {b} other l r) = rw (escape_one d b l) (ap (λ (s : List ℕ). b ∷ s) (back r))
  back (escape {a} {l} {b} {x} p q m r) =
      let (k, z) = meant_letter l x m in
      rw (escape_three d x z) (λ i. (sym p) i ∷ k i ∷ (sym q) i ∷ back r i)

  -- an accepted component, unescaped and escaped again, is the component
  pub plain_escaped : (c t : List ℕ) → unescaped d c ≡ Some t → escaped d t ≡ c
  plain_escaped c t e = back (reads d c t e)

-- an escaped text is at most three times as long
escape_most : (d : Delimiters) (x : ℕ) → length (escape_of d x) ≤ 3
escape_most d x =
    elim (ℕ_discrete (letter_for d x) 0) [
      | yes p ↦ omega (arith, ap length (escape_one d x p))
      | no p ↦ omega (arith, ap length (escape_three d x p))
    ]

pub escaped_most : (d : Delimiters) (t : List ℕ) → length (escaped d t) ≤ 3 * length t
escaped_most d [] = omega arith
escaped_most d (x ∷ t) = omega (arith, length-append (escape_of d x) (escaped d t), escape_most d x, escaped_most d t)

-- both for every allowed four
module _ (d : Delimiters) (four : are_delimiters d ≡ true) where
  pub allowed_back : (t : List ℕ) → unescaped d (escaped d t) ≡ Some t
  allowed_back t = escaped_plain d t

  pub allowed_forth : (c t : List ℕ) → unescaped d c ≡ Some t → escaped d t ≡ c
  allowed_forth c t e = plain_escaped d (allowed_different d four) c t e

-- The next line: where it ends, and what it says.
-- Assumes nothing.
use Rattle.std.specs.Prelude.{None, Option, Some}
use Rattle.listing.specs.declared.Item.{Item}
use Rattle.std.proofs.Common.{◌≡◌, ℕ, ◌+◌, ◌<◌, ◌≤◌, Bool, true, false, not, ◌&&◌, ◌||◌, ltb, List, [], ◌∷◌, length, get_or, take, drop, sym, refl, ap, ◌∙◌, subst, true≢false, arith, length-drop, ltb-true, le-ltb, lt-ltb}
use native.Mathlib.Decide.{ℕ_discrete, dec_le}
use borrow.Author.Tests.{not-true}
use Rattle.memory.specs.Tests.{is, find, unless}
use Rattle.memory.proofs.Tests.{and_left, and_right, find_le}
use Rattle.listing.specs.Texts.{newline}
use Rattle.listing.specs.Items.{item_of}
use Rattle.replaying.specs.Lines.{Next, Whole, Unended, first_line, next_of}
use Rattle.replaying.specs.Inner.Asks.{line_length}
use Rattle.replaying.specs.Inner.Usual.{usual, has_newline, is_usual}

-- the first line, by its length
abbrev pub line_by : List ℕ → ℕ → Option ℕ → Next
line_by text at (Some n) = Whole (item_of (take n text)) (at + n + 1)
line_by text at None = Unended

pub by_line_length : (text : List ℕ) (at : ℕ) → line_by text at (line_length text) ≡ first_line text at
unfolding first_line line_length
by_line_length text at = by_end (ltb (find (is newline) text) (length text))
  where
    by_end : (t : Bool) → line_by text at (unless t None (Some (find (is newline) text))) ≡ unless t Unended (Whole (item_of (take (find (is newline) text) text)) (at + find (is newline) text + 1))
    by_end true = refl
    by_end false = refl

-- no newline in it, or a newline behind n bytes
pub no_length : (text : List ℕ) → find (is newline) text ≡ length text → None ≡ line_length text
unfolding line_length
no_length text e = rw (e, le-ltb (length text) (length text) (omega arith))

pub has_length : (text : List ℕ) {n : ℕ} → n ≡ find (is newline) text → n < length text → Some n ≡ line_length text
unfolding line_length
has_length text {n} e h = rw (← e, lt-ltb n (length text) h)

module _ (text : List ℕ) (at : ℕ) where
  -- so there is no whole line, or the first n bytes are one
  pub unended : find (is newline) text ≡ length text → Unended ≡ first_line text at
  unended e = ap (line_by text at) (no_length text e) ∙ by_line_length text at

  pub whole : {n : ℕ} {item : Option Item} → n ≡ find (is newline) text → n < length text → item ≡ item_of (take n text) → Whole item (at + n + 1) ≡ first_line text at
  whole {n} {item} e h i = ap (λ (x : Option Item). Whole x (at + n + 1)) i ∙ (ap (line_by text at) (has_length text e h) ∙ by_line_length text at)

-- three bytes with no newline
none_of : (a b c : Bool) → a || (b || c) ≡ false → (a ≡ false) × (b ≡ false) × (c ≡ false)
none_of false false false e = (refl, refl, refl)
none_of false false true e = absurd (true≢false e)
none_of false true c e = absurd (true≢false e)
none_of true b c e = absurd (true≢false e)

-- a text of seven bytes and more, whose first newline is the seventh
pub usual_line : (text : List ℕ) → is_usual text ≡ true → (usual < length text) × (usual ≡ find (is newline) text)
unfolding is_usual has_newline
usual_line text e = (ltb-true usual (length text) (and_left (ltb usual (length text)) _ e), by_bytes text (ltb-true usual (length text) (and_left (ltb usual (length text)) _ e)) (and_right (ltb usual (length text)) _ e))
  where
    by_bytes : (t : List ℕ) → usual < length t
        → is newline (get_or t usual 0) && (not (is newline (get_or t 0 0) || (is newline (get_or t 1 0) || is newline (get_or t 2 0))) && not (is newline (get_or t 3 0) || (is newline (get_or t 4 0) || is newline (get_or t 5 0)))) ≡ true
        → usual ≡ find (is newline) t
    by_bytes (a ∷ b ∷ c ∷ d ∷ e ∷ f ∷ g ∷ t) h q =
        let r = and_right (is newline g) _ q in
        let first = is newline a || (is newline b || is newline c) in
        let last = is newline d || (is newline e || is newline f) in
        let (at_a, at_b, at_c) = none_of (is newline a) (is newline b) (is newline c) (not-true first (and_left (not first) (not last) r)) in
        let (at-d, at-e, at_f) = none_of (is newline d) (is newline e) (is newline f) (not-true last (and_right (not first) (not last) r)) in
        rw (at_a, at_b, at_c, at-d, at-e, at_f, and_left (is newline g) _ q)
    by_bytes [] h q = absurd (omega arith)
    by_bytes (a ∷ []) h q = absurd (omega arith)
    by_bytes (a ∷ b ∷ []) h q = absurd (omega arith)
    by_bytes (a ∷ b ∷ c ∷ []) h q = absurd (omega arith)
    by_bytes (a ∷ b ∷ c ∷ d ∷ []) h q = absurd (omega arith)
    by_bytes (a ∷ b ∷ c ∷ d ∷ e ∷ []) h q = absurd (omega arith)
    by_bytes (a ∷ b ∷ c ∷ d ∷ e ∷ f ∷ []) h q = absurd (omega arith)

pub scanned : (text : List ℕ) (n : ℕ) → n ≡ find (is newline) text → n ≤ length text
scanned text n e = rw e (find_le (is newline) text)

pub below : (n m : ℕ) → n ≤ m → (n ≡ m → ⊥) → n < m
below n m h q = elim (ℕ_discrete n m) [
  | yes e ↦ absurd (q e)
  | no e ↦ omega (arith, h, e)
]

-- past the end nothing is left
pub nothing_left : (input : List ℕ) (at : ℕ) → length input < at → Unended ≡ next_of input at
nothing_left input at h = unended (drop at input) at (by_length (drop at input) (rw length-drop (omega arith)))
  where
    by_length : (t : List ℕ) → length t ≡ 0 → find (is newline) t ≡ length t
    by_length [] e = refl
    by_length (b ∷ t) e = absurd (omega arith)

-- and the line behind starts within it
abbrev BehindIn : Next → ℕ → Type 0
BehindIn Unended most = Unit {0}
BehindIn (Whole item behind) most = behind ≤ most

first_within : (text : List ℕ) (at most : ℕ) → at + length text ≤ most → BehindIn (first_line text at) most
unfolding first_line
first_within text at most h = by_end (ltb (find (is newline) text) (length text)) refl
  where
    by_end : (t : Bool) → ltb (find (is newline) text) (length text) ≡ t → BehindIn (unless t Unended (Whole (item_of (take (find (is newline) text) text)) (at + find (is newline) text + 1))) most
    by_end true e = omega (arith, h, ltb-true (find (is newline) text) (length text) e)
    by_end false e = tt

pub behind_within : (input : List ℕ) (at : ℕ) {item : Option Item} {behind : ℕ} → Whole item behind ≡ next_of input at → behind ≤ length input
behind_within input at {item} {behind} e = subst (λ (x : Next). BehindIn x (length input)) (sym e) (elim (dec_le at (length input)) [
  | yes h ↦ first_within (drop at input) at (length input) (rw length-drop (omega arith))
  | no h ↦ subst (λ (x : Next). BehindIn x (length input)) (nothing_left input at (omega (arith, h))) tt
])

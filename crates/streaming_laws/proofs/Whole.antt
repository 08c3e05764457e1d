-- The listing of a whole trace: rows in front of it, a rest without a newline, and a line that is too long.
-- Assumes nothing.
use Rattle.std.specs.Prelude.{None}
use mathlib.Core.Path.{◌≡◌, refl, sym, ap, subst, ◌∙◌}
use mathlib.Core.Bool.{Bool, true, false, ◌&&◌}
use mathlib.Core.List.{List, [], ◌∷◌, ◌++◌, append_assoc}
use Prim.Native.Nat.{ℕ, zero, suc, ◌+◌, ◌-◌, ◌≤◌, ◌<◌}
use native.Mathlib.Nat.{add-zero}
use native.Mathlib.Omega.{arith}
use borrow.Author.Tests.{ltb-true, ltb-false, lt-leb}
use lib.Dec.{leb, ltb}
use lib.ListN.{length, get_or, take, drop, length-append}
use lib.Seq.{length-take-le}
use Rattle.memory.specs.Tests.{is, find, unless}
use Rattle.memory.proofs.Tests.{find_le}
use Rattle.sequence.specs.Numbers.{is_digit}
use Rattle.listing.specs.Texts.{newline, fault_text}
use Rattle.listing.specs.Items.{shortest, line_limit, operand_at, operand_of, is_laid_out, item_of}
use Rattle.replaying.specs.Desk.{Desk}
use Rattle.replaying.specs.Runs.{following}
use Rattle.replaying.specs.Listed.{Listed, no_rows, in_front, by_line, listed, listing_of}
use Rattle.replaying.specs.Lines.{Next}
use Rattle.replaying.specs.declared.Stop.{Stop}
use Rattle.replaying.specs.declared.Stop.TheVariants.{Input, Output, NotAnEvent}
use Rattle.replaying.proofs.Newlines.{unended, whole}
use Rattle.streaming_laws.specs.Listings.{by_rest, with_last, whole_of, closing_of, text_of}

-- ---- rows in front

pub text_front : (rows : List ℕ) (l : Listed) → text_of (in_front rows l) ≡ rows ++ text_of l
text_front rows l = append_assoc rows l.rows (closing_of l.stop l.events)

last_front : (rows : List ℕ) (l : Listed) → with_last (in_front rows l) ≡ in_front rows (with_last l)
last_front rows l = by_rest_law l.stop l.rest
  where
    by_rest_law : (s : Stop) (r : List ℕ) → by_rest s r (in_front rows l) ≡ in_front rows (by_rest s r l)
    by_rest_law Input [] = refl
    by_rest_law Input (b ∷ r) =
        let last = listing_of (l.rest ++ (newline ∷ [])) l.events l.desk in
        ap (λ (t : List ℕ). record { rows = t; events = last.events; desk = last.desk; rest = last.rest; stop = last.stop }) (append_assoc rows l.rows last.rows)
    by_rest_law Output r = refl
    by_rest_law NotAnEvent r = refl

-- the text of a whole trace, where its listing has rows in front
pub whole_front : (rows : List ℕ) (l l' : Listed) → l ≡ in_front rows l' → text_of (with_last l) ≡ rows ++ text_of (with_last l')
whole_front rows l l' e = ap (λ (x : Listed). text_of (with_last x)) e ∙ ap text_of (last_front rows l') ∙ text_front rows (with_last l')

-- ---- a rest without a newline

module _ (rest : List ℕ) (n : ℕ) (d : Desk) (none : find (is newline) rest ≡ length rest) where
  pub no_line : listing_of rest n d ≡ no_rows Input rest n d
  unfolding listed
  no_line = by_fuel (length rest)
    where
      by_fuel : (m : ℕ) → listed m rest n d ≡ no_rows Input rest n d
      by_fuel zero = refl
      by_fuel (suc m) = sym (ap (λ (x : Next). by_line x rest n d (λ behind e. listed m (drop behind rest) (following n) e)) (unended rest 0 none))

  -- with a newline behind it, it is the last line
  pub last_whole : 0 < length rest → text_of (whole_of rest n d) ≡ text_of (listing_of (rest ++ (newline ∷ [])) n d)
  last_whole h = ap (λ (l : Listed). text_of (with_last l)) no_line ∙ by_first rest h
    where
      by_first : (r : List ℕ) → 0 < length r → text_of (with_last (no_rows Input r n d)) ≡ text_of (listing_of (r ++ (newline ∷ [])) n d)
      by_first [] k = absurd (omega arith)
      by_first (b ∷ r) k = refl

-- ---- a line that is too long

find_behind : (p : ℕ → Bool) (a b : List ℕ) → find p a ≡ length a → find p (a ++ b) ≡ length a + find p b
find_behind p [] b e = omega arith
find_behind p (x ∷ a) b e = by_first (p x) refl (λ q. find_behind p a b (omega (arith, rw q at e)))
  where
    by_first : (t : Bool) → p x ≡ t → (p x ≡ false → find p (a ++ b) ≡ length a + find p b) → find p (x ∷ (a ++ b)) ≡ suc (length a) + find p b
    by_first true q g = absurd (omega (arith, rw q at e))
    by_first false q g = rw q (omega (arith, g q))

too_long : (text : List ℕ) → line_limit < length text → item_of text ≡ None
unfolding item_of is_laid_out
too_long text h = rw (lt-leb (length text) line_limit h) (by_short (leb shortest (length text)))
  where
    by_short : (b : Bool) → unless (b && false && is_digit (get_or text 0 0) && is 0x20 (get_or text 1 0) && is 0x20 (get_or text 3 0)) None (operand_of (get_or text 0 0 - 0x30) (get_or text 2 0) (drop operand_at text)) ≡ None
    by_short true = refl
    by_short false = refl

-- the listing ends at it, wherever the line ends
module _ (rest : List ℕ) (n : ℕ) (d : Desk) (none : find (is newline) rest ≡ length rest) (long : line_limit < length rest) where
  ends_there : (more : List ℕ) → find (is newline) (rest ++ more) < length (rest ++ more) → listing_of (rest ++ more) n d ≡ no_rows NotAnEvent (rest ++ more) n d
  unfolding listed
  ends_there more h =
      let text = rest ++ more in
      let k = find (is newline) text in
      let far : length rest ≤ k = omega (arith, find_behind (is newline) rest more none) in
      let line : length (take k text) ≡ k = length-take-le k text (omega (arith, h)) in
      let item : None ≡ item_of (take k text) = sym (too_long (take k text) (omega (arith, line, far, long))) in
      let fuel : length text ≡ suc (length text - 1) = omega (arith, h) in
      ap (λ (m : ℕ). listed m text n d) fuel
      ∙ ap (λ (x : Next). by_line x text n d (λ behind e. listed (length text - 1) (drop behind text) (following n) e)) (sym (whole text 0 refl h item))

  -- one newline behind all of it ends it
  closed_there : (more : List ℕ) → find (is newline) (rest ++ more) ≡ length (rest ++ more)
      → listing_of ((rest ++ more) ++ (newline ∷ [])) n d ≡ no_rows NotAnEvent ((rest ++ more) ++ (newline ∷ [])) n d
  closed_there more bare =
      let text = rest ++ more in
      let same : rest ++ (more ++ (newline ∷ [])) ≡ text ++ (newline ∷ []) = sym (append_assoc rest more (newline ∷ [])) in
      let found : find (is newline) (text ++ (newline ∷ [])) ≡ length text = find_behind (is newline) text (newline ∷ []) bare ∙ add-zero (length text) in
      let ends : find (is newline) (text ++ (newline ∷ [])) < length (text ++ (newline ∷ [])) = rw (found, length-append text (newline ∷ [])) (omega arith) in
      let inside = subst (λ (t : List ℕ). find (is newline) t < length t) (sym same) ends in
      subst (λ (t : List ℕ). listing_of t n d ≡ no_rows NotAnEvent t n d) same (ends_there (more ++ (newline ∷ [])) inside)

  pub long_line : (more : List ℕ) → text_of (whole_of (rest ++ more) n d) ≡ fault_text (following n)
  long_line more = by_newline (ltb (find (is newline) (rest ++ more)) (length (rest ++ more))) refl
    where
      by_newline : (b : Bool) → ltb (find (is newline) (rest ++ more)) (length (rest ++ more)) ≡ b → text_of (whole_of (rest ++ more) n d) ≡ fault_text (following n)
      by_newline true e = ap (λ (l : Listed). text_of (with_last l)) (ends_there more (ltb-true (find (is newline) (rest ++ more)) (length (rest ++ more)) e))
      by_newline false e =
          let text = rest ++ more in
          let bare : find (is newline) text ≡ length text = omega (arith, find_le (is newline) text, ltb-false (find (is newline) text) (length text) e) in
          last_whole text n d bare (omega (arith, length-append rest more, long)) ∙ ap text_of (closed_there more bare)

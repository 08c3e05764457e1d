-- A component with its escapes taken out.
-- Assumes nothing.
use Rattle.escaping.specs.declared.Refusal.TheVariants.{BadDelimiters, Malformed, NotFitting}
use Rattle.escaping.specs.declared.Refusal.{Refusal}
use Rattle.std.specs.Prelude.{ℕ, ◌≡◌, List, [], ◌∷◌, cond, length, Err, None, Ok, Option, Result, Some}
use Rattle.memory.specs.Tests.{unless, is, is_one_of}
use Rattle.memory.specs.Moves.{fits_at, copied}
use Rattle.kinds.specs.Delimiters.{are_delimiters}
use Rattle.kinds.specs.declared.Delimiters.{Delimiters}
use Rattle.escaping.specs.Letters.{meant}

-- a byte that stands for itself; none for a bare delimiter
abbrev pub itself : Delimiters → ℕ → Option ℕ
itself d b = cond (is_one_of (d.field ∷ d.repeat ∷ d.component ∷ []) b) None (Some b)

-- a byte in front of a text, where there are both
abbrev pub front : Option ℕ → Option (List ℕ) → Option (List ℕ)
front None t = None
front (Some b) None = None
front (Some b) (Some t) = Some (b ∷ t)

-- the text that a component stands for; none where it is refused.
-- Behind an escape byte come a letter and the escape byte again [R18, R20]
abbrev mutual
  pub unescaped : Delimiters → List ℕ → Option (List ℕ)
  unescaped d [] = Some []
  unescaped d (b ∷ bs) = cond (is d.escape b) (behind_escape d bs) (front (itself d b) (unescaped d bs))

  pub behind_escape : Delimiters → List ℕ → Option (List ℕ)
  behind_escape d [] = None
  behind_escape d (l ∷ []) = None
  behind_escape d (l ∷ b ∷ bs) = cond (is d.escape b) (front (meant d l) (unescaped d bs)) None

-- the answer to an unescaping: 55 where the four are not allowed, 46 where the component is refused, 47 where the memory is too short, else the length [A46, A47, A55, O6, R18]
abbrev pub answer_to : Option (List ℕ) → List ℕ → Result ℕ Refusal
answer_to None out = Err Malformed
answer_to (Some t) out = cond (fits_at out 0 t) (Ok (length t)) (Err NotFitting)

unfoldable pub unescape_answer : Delimiters → List ℕ → List ℕ → Result ℕ Refusal
unescape_answer d c out = unless (are_delimiters d) (Err BadDelimiters) (answer_to (unescaped d c) out)

-- the memory after it: unchanged on a refusal
abbrev pub written_over : Option (List ℕ) → List ℕ → List ℕ
written_over None out = out
written_over (Some t) out = copied out 0 t

unfoldable pub unescaped_over : Delimiters → List ℕ → List ℕ → List ℕ
unescaped_over d c out = unless (are_delimiters d) out (written_over (unescaped d c) out)

-- what unescaping says: the answer, and the memory after it [R21]
pub record Unescaping (d : Delimiters) (c out : List ℕ) (r : Result ℕ Refusal) (out' : List ℕ) : Type 0 where
  pub answer : r ≡ unescape_answer d c out
  pub after : out' ≡ unescaped_over d c out

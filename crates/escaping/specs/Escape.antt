-- Text with its delimiters escaped.
-- Assumes nothing.
use Rattle.escaping.specs.declared.Refusal.TheVariants.{BadDelimiters, Malformed, NotFitting}
use Rattle.escaping.specs.declared.Refusal.{Refusal}
use Rattle.std.specs.Prelude.{ℕ, ◌≡◌, List, [], ◌∷◌, ◌++◌, cond, eqb, length, Err, Ok, Result}
use Rattle.memory.specs.Tests.{unless}
use Rattle.memory.specs.Moves.{fits_at, copied}
use Rattle.kinds.specs.Delimiters.{are_delimiters}
use Rattle.kinds.specs.declared.Delimiters.{Delimiters}
use Rattle.escaping.specs.Letters.{letter_for}

-- a delimiter becomes the escape byte, its letter and the escape byte; another byte stands for itself
unfoldable pub escape_of : Delimiters → ℕ → List ℕ
escape_of d b = cond (eqb (letter_for d b) 0) (b ∷ []) (d.escape ∷ letter_for d b ∷ d.escape ∷ [])

-- a text, byte by byte [R19, R20]
abbrev pub escaped : Delimiters → List ℕ → List ℕ
escaped d [] = []
escaped d (b ∷ bs) = escape_of d b ++ escaped d bs

-- the number of a refusal; none where the text was put out
abbrev pub paper : Result ℕ Refusal → List ℕ
paper (Ok n) = []
paper (Err Malformed) = 46 ∷ []
paper (Err NotFitting) = 47 ∷ []
paper (Err BadDelimiters) = 55 ∷ []

-- the answer to an escaping: 55 where the four are not allowed, 47 where the memory is too short, else the length [A47, A55, O6, R19]
unfoldable pub escape_answer : Delimiters → List ℕ → List ℕ → Result ℕ Refusal
escape_answer d text out =
    unless (are_delimiters d) (Err BadDelimiters) (unless (fits_at out 0 (escaped d text)) (Err NotFitting) (Ok (length (escaped d text))))

-- the memory after it: the escaped text at its start, the rest kept; unchanged on a refusal
unfoldable pub escaped_over : Delimiters → List ℕ → List ℕ → List ℕ
escaped_over d text out = unless (are_delimiters d) out (copied out 0 (escaped d text))

-- what escaping says: the answer, and the memory after it [R21]
pub record Escaping (d : Delimiters) (text out : List ℕ) (r : Result ℕ Refusal) (out' : List ℕ) : Type 0 where
  pub answer : r ≡ escape_answer d text out
  pub after : out' ≡ escaped_over d text out

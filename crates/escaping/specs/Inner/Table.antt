-- A table of the letters: for each byte its letter, so that a byte is looked up and not compared with each delimiter.
-- Assumes nothing.
use Rattle.std.specs.Prelude.{ℕ, ◌<◌, ◌≡◌, List, get_or}
use Rattle.kinds.specs.declared.Delimiters.{Delimiters}
use Rattle.escaping.specs.Letters.{letter_for}

-- the table has the letter of every byte, 0 where the byte stands for itself
pub record Lettering (d : Delimiters) (letters : List ℕ) : Type 0 where
  pub letter : (b : ℕ) → b < 256 → get_or letters b 0 ≡ letter_for d b

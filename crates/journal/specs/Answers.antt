-- The number of each answer, and the values that come with it.
-- Assumes nothing.
use Rattle.journal.specs.declared.Refusal.{Refusal}
use Rattle.journal.specs.declared.NotTaken.{NotTaken}
use Rattle.std.specs.Prelude.{ℕ, List, [], ◌∷◌, Err, Ok, Result}

-- to judge an entry, and to store it
abbrev pub verdict_number : Result (Unit {0}) Refusal → ℕ
verdict_number (Ok tt) = 4
verdict_number (Err Refusal.NoRoom) = 31
verdict_number (Err Refusal.NoLine) = 40
verdict_number (Err Refusal.WrongSize) = 41
verdict_number (Err Refusal.Broken) = 43
verdict_number (Err Refusal.Malformed) = 46

-- to take an entry: the number, then its values, which for 8 are the text's length and the serial
abbrev pub took_paper : Result (ℕ × ℕ) NotTaken → List ℕ
took_paper (Ok (n, serial)) = 8 ∷ n ∷ serial ∷ []
took_paper (Err NotTaken.NoLine) = 40 ∷ []
took_paper (Err NotTaken.WrongSize) = 41 ∷ []
took_paper (Err NotTaken.Broken) = 43 ∷ []
took_paper (Err NotTaken.NothingWaiting) = 44 ∷ []
took_paper (Err NotTaken.BufferShort) = 45 ∷ []

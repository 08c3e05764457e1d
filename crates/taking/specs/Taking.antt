-- The answer to a taking.
-- Assumes nothing.
use Rattle.std.specs.Prelude.{Err, Ok, Result, ℕ}
use Rattle.journal.specs.declared.NotTaken.{NotTaken}
use Rattle.answers.specs.declared.Answer.{Answer}
use Rattle.answers.specs.declared.Answer.TheVariants.{Taken, NoLine, WrongSize, Broken, NothingWaiting, BufferShort}

abbrev pub took_answer : Result (ℕ × ℕ) NotTaken → Answer
took_answer (Ok (n, serial)) = Taken n serial
took_answer (Err NotTaken.NothingWaiting) = NothingWaiting
took_answer (Err NotTaken.BufferShort) = BufferShort
took_answer (Err NotTaken.Broken) = Broken
took_answer (Err NotTaken.NoLine) = NoLine
took_answer (Err NotTaken.WrongSize) = WrongSize

-- What a taking leaves of what a host keeps, over plain numbers.
-- Assumes nothing.
use Rattle.journal.specs.declared.NotTaken.{NotTaken}
use Rattle.std.specs.Prelude.{ℕ, ◌≡◌, List, ltb, Err, Ok, Result}
use Rattle.memory.specs.Sizes.{lines}
use Rattle.memory.specs.Tests.{unless}
use Rattle.journal.specs.Removal.{AfterTaking, take_of}
use Rattle.answers.specs.Paper.{number_of}
use Rattle.answers.specs.declared.Answer.{Answer}
use Rattle.taking.specs.Taking.{took_answer}
use Rattle.ledger.specs.Ledgers.{ledger_of, with_used}
use Rattle.answers.specs.InNumbers.{in_numbers}
use Rattle.answers.specs.declared.Answered.{Answered}

-- the answer to a taking: for 8 the text's length and the serial [H5]
unfoldable pub taking_in_numbers : Result (ℕ × ℕ) NotTaken → Answered
taking_in_numbers (Ok (n, serial)) = record { number = number_of (Answer.Taken n serial); reply = 0; serial = serial; place = 0; digits = 0; length = n }
taking_in_numbers (Err e) = in_numbers (took_answer (Err e))

-- what a taking may write; the lines' numbers it only reads
pub record TakeState : Type 0 where
  pub counts : List ℕ
  pub journal : List ℕ
  pub buffer : List ℕ

pub record AfterTake : Type 0 where
  pub answered : Answered
  pub state : TakeState

-- a taking: the journal's, of the ledger that the numbers stand for; on no line (40) nothing is written
abbrev pub used_after : List ℕ → ℕ → AfterTaking → List ℕ
used_after us i t = unless (ltb i lines) us (with_used us i t.taking.ledger)

abbrev pub taking_of : List ℕ → ℕ → TakeState → AfterTake
taking_of numbers i s =
    let t = take_of (ledger_of numbers s.counts) i s.journal s.buffer in
    record {
      answered = taking_in_numbers t.taking.answer;
      state = record { counts = used_after s.counts i t; journal = t.journal; buffer = t.buffer };
    }

-- what a taking says [H4]
pub record Taken (numbers : List ℕ) (i : ℕ) (s : TakeState) (r : Answered) (t : TakeState) : Type 0 where
  pub result : r ≡ (taking_of numbers i s).answered
  pub state : t ≡ (taking_of numbers i s).state

-- Runs of storings and takings on any lines, and what goes in and comes out on one line, read off the answers and the buffers.
-- Assumes nothing.
use Rattle.std.specs.Result.{is_ok}
use Rattle.journal.specs.declared.NotTaken.TheVariants.{Broken, BufferShort, NoLine, NothingWaiting, WrongSize}
use Rattle.journal.specs.declared.NotTaken.{NotTaken}
use Rattle.std.specs.Prelude.{ℕ, suc, ◌%◌, List, [], ◌∷◌, ◌++◌, cond, ◌&&◌, take, eqb, Err, Ok, Result}
use Rattle.header.specs.Header.{serial_count}
use Rattle.header.specs.Entry.{Entry}
use Rattle.journal.specs.Storage.{store_of}
use Rattle.journal.specs.Removal.{take_of}
use Rattle.journal.specs.declared.Ledger.{Ledger}

-- the storing of a text on a line, or a taking from a line into a buffer
pub data Operation : Type 0 where
  put : ℕ → List ℕ → Operation
  get : ℕ → List ℕ → Operation

pub record State : Type 0 where
  pub ledger : Ledger
  pub journal : List ℕ

-- a text with its serial
pub record Numbered : Type 0 where
  pub serial : ℕ
  pub text : List ℕ

-- texts whose serials count up from n
abbrev pub numbered : ℕ → List (List ℕ) → List Numbered
numbered n [] = []
numbered n (t ∷ ts) = record { serial = n % serial_count; text = t } ∷ numbered (suc n) ts

-- a line's entries, in their order, and as texts with their serials
abbrev pub only : ℕ → List Entry → List Entry
only l [] = []
only l (e ∷ es) = cond (eqb e.line l) (e ∷ only l es) (only l es)

abbrev pub texts : List Entry → List Numbered
texts [] = []
texts (e ∷ es) = record { serial = e.serial; text = e.text } ∷ texts es

abbrev pub waiting : ℕ → List Entry → List Numbered
waiting l es = texts (only l es)

-- what a taking left in the buffer, by its answer
abbrev pub given : Result (ℕ × ℕ) NotTaken → List ℕ → List Numbered
given (Ok (n, serial)) b = record { serial = serial; text = take n b } ∷ []
given (Err NoLine) b = []
given (Err WrongSize) b = []
given (Err Broken) b = []
given (Err NothingWaiting) b = []
given (Err BufferShort) b = []

module _ (shares : List ℕ) where
  abbrev pub next : State → Operation → State
  next s (put l t) = record { ledger = (store_of s.ledger shares l t s.journal).storing.ledger; journal = (store_of s.ledger shares l t s.journal).journal }
  next s (get l b) = record { ledger = (take_of s.ledger l s.journal b).taking.ledger; journal = (take_of s.ledger l s.journal b).journal }

  abbrev pub after : State → List Operation → State
  after s [] = s
  after s (o ∷ os) = after (next s o) os

  -- the text that an operation stores on line k, and the one that it takes from line k
  abbrev pub goes_in : ℕ → State → Operation → List (List ℕ)
  goes_in k s (put l t) = cond (eqb l k && is_ok (store_of s.ledger shares l t s.journal).storing.answer) (t ∷ []) []
  goes_in k s (get l b) = []

  abbrev pub comes_out : ℕ → State → Operation → List Numbered
  comes_out k s (put l t) = []
  comes_out k s (get l b) = cond (eqb l k) (given (take_of s.ledger l s.journal b).taking.answer (take_of s.ledger l s.journal b).buffer) []

  -- in a whole run
  abbrev pub all_in : ℕ → State → List Operation → List (List ℕ)
  all_in k s [] = []
  all_in k s (o ∷ os) = goes_in k s o ++ all_in k (next s o) os

  abbrev pub all_out : ℕ → State → List Operation → List Numbered
  all_out k s [] = []
  all_out k s (o ∷ os) = comes_out k s o ++ all_out k (next s o) os

-- The first fault of a text that is no message: its kind, and its record's place, counted from 1.
-- Assumes nothing.
use Rattle.faults.specs.declared.Flaw.TheVariants.{Faulty, NotText}
use Rattle.faults.specs.declared.Flaw.{Flaw}
use Rattle.answers.specs.declared.Fault.{Fault}
use Rattle.std.specs.Prelude.{ℕ, ◌+◌, List, [], ◌∷◌, Bool, false, true, cond, ◌&&◌, leb, eqb, length, Err, None, Ok, Option, Result, Some}
use Rattle.memory.specs.Sizes.{message_limit}
use Rattle.memory.specs.Tests.{unless, all}
use Rattle.characters.specs.Allowed.{allowed}
use Rattle.kinds.specs.Kinds.{may_follow, is_terminator}
use Rattle.kinds.specs.Header.{is_header}
use Rattle.kinds.specs.Delimiters.{delimiters_of, are_delimiters}
use Rattle.records.specs.Records.{records, none, ends_with_cr}
use Rattle.sequence.specs.Numbers.{started, count_of, counted}
use Rattle.faults.specs.Message.{type_in, number_in}
use Rattle.kinds.specs.declared.Kind.{Kind}
use Rattle.kinds.specs.declared.Delimiters.{Delimiters}
use Rattle.sequence.specs.declared.Counts.{Counts}
use Rattle.answers.specs.Paper.{fault_number}
use Rattle.answers.specs.declared.Fault.TheVariants.{NoHeader, UnknownType, Misplaced, Misnumbered, NoFinalCr, BadDelimiters}

-- L stands last, and nothing else does
abbrev pub placed : Bool → Kind → Bool
placed true k = is_terminator k
placed false k = true

-- a record behind the first, `last` if no other follows it: its type, then what it follows, then its number, which is the next of its count [A51, A52, A53]
unfoldable pub kind_step : Counts → Bool → Option Kind → ℕ → Result Counts Fault
kind_step s last None n = Err UnknownType
kind_step s last (Some k) n =
    unless (may_follow s.other k && placed last k) (Err Misplaced)
    (unless (eqb n (count_of s k + 1)) (Err Misnumbered) (Ok (counted s k n)))

unfoldable pub record_step : Delimiters → Counts → Bool → List ℕ → Result Counts Fault
record_step d s last r = kind_step s last (type_in d r) (number_in d r)

-- the first record: a header, by an allowed four and, as it is no L, not the last [A50, A52, A55]
unfoldable pub header_step : Delimiters → Bool → List ℕ → Result Counts Fault
header_step d last r = unless (is_header d r) (Err NoHeader) (unless (are_delimiters d) (Err BadDelimiters) (cond last (Err Misplaced) (Ok started)))

-- from a record's step on: the fault with the record's place, or what comes behind it
abbrev pub after : Result Counts Fault → ℕ → (Counts → Result (Unit {0}) Flaw) → Result (Unit {0}) Flaw
after (Ok s) place go = go s
after (Err f) place go = Err (Faulty f place)

-- the records behind the first, the first of them at this place
abbrev pub rest_fault : Delimiters → Counts → ℕ → List (List ℕ) → Result (Unit {0}) Flaw
rest_fault d s place [] = Ok tt
rest_fault d s place (r ∷ rs) = after (record_step d s (none rs) r) place (λ t. rest_fault d t (place + 1) rs)

-- all records, front to back
unfoldable pub records_fault : Delimiters → List (List ℕ) → Result (Unit {0}) Flaw
records_fault d [] = Err (Faulty NoHeader 1)
records_fault d (r ∷ rs) = after (header_step d (none rs) r) 1 (λ t. rest_fault d t 2 rs)

-- a text: at most the limit long and of allowed bytes, else it has no records; then not empty, ended by CR, and its records front to back [A50, A54, R22]
unfoldable pub fault : Delimiters → List ℕ → Result (Unit {0}) Flaw
fault d text =
    unless (leb (length text) message_limit && all allowed text) (Err NotText)
    (cond (eqb (length text) 0) (Err (Faulty NoHeader 1))
    (unless (ends_with_cr text) (Err (Faulty NoFinalCr (length (records text)))) (records_fault d (records text))))

-- there is none: the text is a message (the law `no_fault`)
abbrev pub is_faultless : Result (Unit {0}) Flaw → Bool
is_faultless (Ok tt) = true
is_faultless (Err NotText) = false
is_faultless (Err (Faulty f place)) = false

-- what is wrong with a text first, read by the delimiters in force in it [R2]
abbrev pub fault_of : List ℕ → Result (Unit {0}) Flaw
fault_of text = fault (delimiters_of text) text

-- number and values with which such a text is refused where it is cut or read; none for a message [A46, R22]
abbrev pub paper : Result (Unit {0}) Flaw → List ℕ
paper (Ok tt) = []
paper (Err NotText) = 46 ∷ []
paper (Err (Faulty f place)) = fault_number f ∷ place ∷ []

-- Sequence numbers: field 2 of every record but H, and the counts that say which number is next.
-- Assumes nothing.
use Rattle.std.specs.Prelude.{ℕ, ◌+◌, ◌-◌, ◌*◌, List, [], ◌∷◌, Bool, not, cond, ◌&&◌, length, get_or}
use Rattle.memory.specs.Tests.{is, between, all}
use Rattle.kinds.specs.declared.Kind.{Kind}
use Rattle.kinds.specs.declared.Kind.TheVariants.{Header, Patient, Order, Result, Query, Terminator, Comment, Manufacturer}
use Rattle.sequence.specs.declared.Counts.{Counts}

abbrev pub is_digit : ℕ → Bool
is_digit b = between 0x30 0x39 b

-- the number that digits stand for, behind those that stand for n
abbrev pub decimal : ℕ → List ℕ → ℕ
decimal n [] = n
decimal n (b ∷ bs) = decimal (n * 10 + (b - 0x30)) bs

-- a number from 1 to 999999 in decimal, no leading zero; 0 for any other field [R8]
unfoldable pub number_of : List ℕ → ℕ
number_of f = cond (between 1 6 (length f) && not (is 0x30 (get_or f 0 0)) && all is_digit f) (decimal 0 f) 0

-- behind a proper H: the last other record is H, and nothing is counted
abbrev pub started : Counts
started = record { other = Header; patients = 0; queries = 0; orders = 0; results = 0; comments = 0; manufacturers = 0 }

-- the number that a type has reached; L always has 1 [R9]
abbrev pub count_of : Counts → Kind → ℕ
count_of s Header = 0
count_of s Patient = s.patients
count_of s Order = s.orders
count_of s Result = s.results
count_of s Query = s.queries
count_of s Terminator = 0
count_of s Comment = s.comments
count_of s Manufacturer = s.manufacturers

-- behind a record of type k that is neither C nor M, the counts of C and M restart
abbrev pub restarted : Counts → Kind → Counts
restarted s k =
    record { other = k; patients = s.patients; queries = s.queries; orders = s.orders; results = s.results; comments = 0; manufacturers = 0 }

-- the counts after a record of a type with number n: P and Q are never set back, O is by a P, R by an O;
-- C and M have a count each, and every other record sets both back [R7, R9, R10]
abbrev pub counted : Counts → Kind → ℕ → Counts
counted s Header n = s
counted s Patient n =
    record { other = Patient; patients = n; queries = s.queries; orders = 0; results = s.results; comments = 0; manufacturers = 0 }
counted s Order n =
    record { other = Order; patients = s.patients; queries = s.queries; orders = n; results = 0; comments = 0; manufacturers = 0 }
counted s Result n =
    record { other = Result; patients = s.patients; queries = s.queries; orders = s.orders; results = n; comments = 0; manufacturers = 0 }
counted s Query n =
    record { other = Query; patients = s.patients; queries = n; orders = s.orders; results = s.results; comments = 0; manufacturers = 0 }
counted s Terminator n = restarted s Terminator
counted s Comment n =
    record { other = s.other; patients = s.patients; queries = s.queries; orders = s.orders; results = s.results; comments = n; manufacturers = s.manufacturers }
counted s Manufacturer n =
    record { other = s.other; patients = s.patients; queries = s.queries; orders = s.orders; results = s.results; comments = s.comments; manufacturers = n }

-- The message that a block with results becomes, its finding; and its writing into lent memory.
-- Assumes nothing.
use Rattle.std.specs.Prelude.{ℕ, ◌+◌, ◌/◌, ◌%◌, ◌≡◌, Bool, cond, ◌&&◌, List, [], ◌∷◌, ◌++◌, eqb, leb, ltb, length, Option, Some, None}
use Rattle.memory.specs.Parts.{part, splice}
use Rattle.kinds.specs.Delimiters.{standard}
use Rattle.kinds.specs.Kinds.{letter_of}
use Rattle.kinds.specs.declared.Kind.TheVariants.{Header, Patient as PatientKind, Order, Result as ResultKind, Terminator}
use Rattle.records.specs.Records.{joined}
use Rattle.escaping.specs.Escape.{escaped}
use Rattle.settings.specs.Settings.{patient_length, results_length}
use Rattle.settings.specs.declared.Patient.{Patient}
use Rattle.block.specs.Layouts.{Result, results}
use Rattle.finding.specs.Trimmed.{trimmed}

-- where a block has its patient number, its sequence number and its results [B5]
abbrev pub patient_at : ℕ
patient_at = 4

abbrev pub sequence_at : Patient → ℕ
sequence_at p = patient_at + patient_length p + 1

abbrev pub sequence_length : ℕ
sequence_length = 5

abbrev pub results_at : Patient → ℕ
results_at p = sequence_at p + sequence_length + 16

-- a number below 100 in decimal, without a leading zero
abbrev pub numeral : ℕ → List ℕ
numeral k = cond (ltb k 10) ((0x30 + k) ∷ []) ((0x30 + k / 10) ∷ (0x30 + k % 10) ∷ [])

-- fields, with the standard delimiter between them
abbrev pub fielded : List ℕ → List (List ℕ) → List ℕ
fielded f [] = f
fielded f (g ∷ gs) = f ++ standard.field ∷ fielded g gs

-- what a message says of a place of the block
abbrev pub Saying : Type 0
Saying = ℕ → ℕ → List ℕ

-- an R for each result, from number k on: its name in field 3, and its value in field 4; the results stand from byte `at` on [B8]
abbrev pub result_records : Saying → ℕ → ℕ → List Result → List (List ℕ)
result_records say k at [] = []
result_records say k at (r ∷ rs) =
    fielded (letter_of ResultKind ∷ []) (numeral k ∷ r.name ∷ say (at + length r.name) r.value ∷ [])
    ∷ result_records say (k + 1) (at + length r.name + r.value + r.blank) rs

-- H; a P, whose third field is the patient number; an O, whose third is the sequence number; and L [B8]
abbrev pub header_record : List ℕ
header_record = letter_of Header ∷ standard.field ∷ standard.repeat ∷ standard.component ∷ standard.escape ∷ []

abbrev pub patient_record : Patient → Saying → List ℕ
patient_record p say = fielded (letter_of PatientKind ∷ []) (numeral 1 ∷ say patient_at (patient_length p) ∷ [])

abbrev pub order_record : Patient → Saying → List ℕ
order_record p say = fielded (letter_of Order ∷ []) (numeral 1 ∷ say (sequence_at p) sequence_length ∷ [])

abbrev pub last_record : List ℕ
last_record = fielded (letter_of Terminator ∷ []) (numeral 1 ∷ [])

-- all records, in their order [B8]
abbrev pub records_saying : Patient → Saying → List (List ℕ)
records_saying p say = header_record ∷ patient_record p say ∷ order_record p say ∷ (result_records say 1 (results_at p) results ++ last_record ∷ [])

-- of each place it says the bytes that stand there, trimmed and escaped. Names are the layout's: a right block has them at their places.
-- What stands behind a value is spaces in a right block, and trimmed [B8]
abbrev pub saying_of : List ℕ → Saying
saying_of bs at n = escaped standard (trimmed (part bs at n))

-- the finding of a block [B8]
unfoldable pub finding_of : Patient → List ℕ → List ℕ
finding_of p bs = joined (records_saying p (saying_of bs))

-- the longest finding: every byte of data becomes an escape of three [B8]
abbrev pub finding_limit : ℕ
finding_limit = 557

-- the block has its length, and the memory holds every finding
abbrev pub is_put : Patient → List ℕ → List ℕ → Bool
is_put p bs out = eqb (length bs) (results_length p) && leb finding_limit (length out)

-- the length of the finding that is written, if one is
unfoldable pub put_length : Patient → List ℕ → List ℕ → Option ℕ
put_length p bs out = cond (is_put p bs out) (Some (length (finding_of p bs))) None

-- the memory after it: the finding over its start; unchanged where none is written
unfoldable pub put_over : Patient → List ℕ → List ℕ → List ℕ
put_over p bs out = cond (is_put p bs out) (splice out 0 (finding_of p bs)) out

-- what writing a finding says: the answer, and the memory after it
pub record FindingPut (p : Patient) (bs out : List ℕ) (r : Option ℕ) (out' : List ℕ) : Type 0 where
  pub answer : r ≡ put_length p bs out
  pub after : out' ≡ put_over p bs out

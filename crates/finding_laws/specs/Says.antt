-- What a text says of a block with results: read by field, with the text's own delimiters, and unescaped.
-- Assumes nothing.
use Rattle.std.specs.Prelude.{ℕ, ◌+◌, ◌-◌, ◌≡◌, List, [], ◌∷◌, length, get_or, Option, Some}
use Rattle.memory.specs.Parts.{part}
use Rattle.kinds.specs.Delimiters.{delimiters_of}
use Rattle.kinds.specs.declared.Kind.{Kind}
use Rattle.kinds.specs.declared.Kind.TheVariants.{Patient as PatientKind, Order, Result as ResultKind}
use Rattle.records.specs.Fields.{field_of}
use Rattle.records.specs.Records.{records}
use Rattle.faults.specs.Message.{type_in, number_in}
use Rattle.escaping.specs.Unescape.{unescaped}
use Rattle.settings.specs.Settings.{patient_length}
use Rattle.settings.specs.declared.Patient.{Patient}
use Rattle.block.specs.Layouts.{Result, results}
use Rattle.finding.specs.Trimmed.{trimmed}
use Rattle.finding.specs.Findings.{patient_at, sequence_at, sequence_length, results_at}

-- a record of a text, counted from 1
abbrev pub record_of : List ℕ → ℕ → List ℕ
record_of m k = get_or (records m) (k - 1) []

-- what a field of it stands for; both are counted from 1
unfoldable pub read_at : List ℕ → ℕ → ℕ → Option (List ℕ)
read_at m k n = unescaped (delimiters_of m) (field_of (delimiters_of m).field n (record_of m k))

-- the record is of this type and has this number
pub record IsRecord (m : List ℕ) (k : ℕ) (kind : Kind) (number : ℕ) : Type 0 where
  pub type : type_in (delimiters_of m) (record_of m k) ≡ Some kind
  pub number_is : number_in (delimiters_of m) (record_of m k) ≡ number

-- the k-th result, which stands in the block from byte `at` on, has the R record with its number: the name in field 3, the rest in field 4, both trimmed [B8]
pub record SaysResult (bs m : List ℕ) (k at : ℕ) (r : Result) : Type 0 where
  pub kind : IsRecord m (k + 3) ResultKind k
  pub name : read_at m (k + 3) 3 ≡ Some (trimmed (part bs at (length r.name)))
  pub name_is : trimmed (part bs at (length r.name)) ≡ r.name
  pub rest : read_at m (k + 3) 4 ≡ Some (trimmed (part bs (at + length r.name) (r.value + r.blank)))

abbrev pub SaysResults : List ℕ → List ℕ → ℕ → ℕ → List Result → Type 0
SaysResults bs m k at [] = Unit {0}
SaysResults bs m k at (r ∷ rs) = SaysResult bs m k at r × SaysResults bs m (k + 1) (at + length r.name + r.value + r.blank) rs

-- P has the patient number in field 3, O the sequence number in field 3, both trimmed, and each result its R [B8]
pub record Says (p : Patient) (bs m : List ℕ) : Type 0 where
  pub patient_kind : IsRecord m 2 PatientKind 1
  pub patient : read_at m 2 3 ≡ Some (trimmed (part bs patient_at (patient_length p)))
  pub order_kind : IsRecord m 3 Order 1
  pub sequence : read_at m 3 3 ≡ Some (trimmed (part bs (sequence_at p) sequence_length))
  pub all_results : SaysResults bs m 1 (results_at p) results

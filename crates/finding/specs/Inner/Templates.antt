-- A finding as it is written: a template, each mark of which becomes the next datum of the block.
-- Assumes nothing.
use Rattle.std.specs.Prelude.{ℕ, ◌+◌, cond, List, [], ◌∷◌, ◌++◌, length}
use Rattle.memory.specs.Parts.{part}
use Rattle.memory.specs.Tests.{is}
use Rattle.kinds.specs.Delimiters.{standard}
use Rattle.records.specs.Records.{joined}
use Rattle.escaping.specs.Escape.{escaped}
use Rattle.settings.specs.Settings.{patient_length}
use Rattle.settings.specs.declared.Patient.{Patient}
use Rattle.settings.specs.declared.Patient.TheVariants.{Ten}
use Rattle.block.specs.Layouts.{Result, results}
use Rattle.finding.specs.Trimmed.{trimmed}
use Rattle.finding.specs.Findings.{patient_at, sequence_at, sequence_length, results_at, records_saying}
use Rattle.finding.specs.declared.Spot.{Spot}

-- what stands in the template for a datum
abbrev pub mark : ℕ
mark = 0x2e

-- a finding that says a mark of every place; with a patient number of 13 it is the same
unfoldable pub template : List ℕ
template = joined (records_saying Ten (λ at n. mark ∷ []))

abbrev pub template_length : ℕ
template_length = 132

-- where the data stand in a block, in the order of the finding
abbrev pub spot : ℕ → ℕ → Spot
spot at width = record { at = at; width = width }

abbrev pub no_spot : Spot
no_spot = spot 0 0

abbrev pub value_spots : ℕ → List Result → List Spot
value_spots at [] = []
value_spots at (r ∷ rs) = spot (at + length r.name) r.value ∷ value_spots (at + length r.name + r.value + r.blank) rs

unfoldable pub spots_of : Patient → List Spot
spots_of p = spot patient_at (patient_length p) ∷ spot (sequence_at p) sequence_length ∷ value_spots (results_at p) results

abbrev pub spot_count : ℕ
spot_count = 13

-- a datum as the finding says it
unfoldable pub saying : List ℕ → List ℕ
saying bs = escaped standard (trimmed bs)

-- a template with the data of a block in the places of its marks; where no datum is left a mark becomes nothing
abbrev pub filled : List ℕ → List ℕ → List Spot → List ℕ
filled bs [] ss = []
filled bs (t ∷ ts) [] = cond (is mark t) (filled bs ts []) (t ∷ filled bs ts [])
filled bs (t ∷ ts) (s ∷ ss) = cond (is mark t) (saying (part bs s.at s.width) ++ filled bs ts ss) (t ∷ filled bs ts (s ∷ ss))

-- What a read leaves: bytes behind those that wait, or the end of the trace.
-- Assumes nothing.
use Rattle.std.specs.Prelude.{ℕ, ◌+◌, true, false, cond, List, length, ◌==◌, nat_le, nat_lt, slice_set}
use Rattle.memory.specs.Tests.{unless}
use Rattle.listing.specs.Texts.{newline}
use Rattle.streaming.specs.declared.Kept.{Kept}
use Rattle.streaming.specs.declared.Stage.TheVariants.{Runs, Total, Fault}
use Rattle.streaming.specs.Stages.{nothing, closes}

-- what is kept, and the input
pub record Held : Type 0 where
  pub kept : Kept
  pub input : List ℕ

abbrev pub holds : Kept → List ℕ → Held
holds k input = record { kept = k; input = input }

-- n bytes more wait
abbrev pub grown : Kept → ℕ → Kept
grown k n = record { from = k.from; end = k.end + n; events = k.events; ended = false; written = 0; stage = Runs }

-- at the end of the trace: a last line without a newline gets one; a line that fills the input is too long for an event
unfoldable pub finished : Kept → List ℕ → Held
finished k input =
    cond (k.from == k.end) (holds (closes k.events 0 Total) input)
    (cond (k.end == length input) (holds (closes k.events 0 Fault) input)
    (holds (record { from = k.from; end = k.end + 1; events = k.events; ended = true; written = 0; stage = Runs }) (slice_set input k.end newline)))

-- n bytes are read behind what waits, none at the end of the trace
unfoldable pub fed_of : Kept → ℕ → List ℕ → Held
fed_of k n input = unless (nat_le (k.end + n) (length input)) (holds nothing input) (cond (nat_lt 0 n) (holds (grown k n) input) (finished k input))

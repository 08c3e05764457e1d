-- What a line of the listing that is no row leaves: its text, and what comes behind it.
-- Assumes nothing.
use Rattle.std.specs.Prelude.{ℕ, List, None, Option, Some}
use Rattle.memory.specs.Moves.{copied}
use Rattle.listing.specs.Texts.{header_text, total_text, fault_text, end_of}
use Rattle.replaying.specs.Runs.{following}
use Rattle.streaming.specs.declared.Kept.{Kept}
use Rattle.streaming.specs.declared.Stage.{Stage}
use Rattle.streaming.specs.declared.Stage.TheVariants.{Begins, Runs, Wants, Total, Fault, Over}
use Rattle.streaming.specs.Stages.{nothing}

-- what is kept, and the output
pub record Said : Type 0 where
  pub kept : Kept
  pub out : List ℕ

-- behind a text: how much is to be written, and what comes next
abbrev pub behind : Kept → Option ℕ → Stage → Kept
behind k (Some n) stage = record { from = k.from; end = k.end; events = k.events; ended = k.ended; written = n; stage = stage }
behind k None stage = nothing

-- nothing is to be written
abbrev pub silent : Kept → Kept
silent k = record { from = k.from; end = k.end; events = k.events; ended = k.ended; written = 0; stage = k.stage }

-- a text written over the start of the output; where it has no room, nothing is left to do
abbrev pub saying : List ℕ → Stage → Kept → List ℕ → Said
saying text next k out = record { kept = behind k (end_of text out 0) next; out = copied out 0 text }

abbrev pub quiet : Kept → List ℕ → Said
quiet k out = record { kept = silent k; out = out }

-- the header, the total and the line that is not an event, each at its stage
abbrev pub said_at : Stage → Kept → List ℕ → Said
said_at Begins k out = saying header_text Runs k out
said_at Runs k out = quiet k out
said_at Wants k out = quiet k out
said_at Total k out = saying (total_text k.events) Over k out
said_at Fault k out = saying (fault_text (following k.events)) Over k out
said_at Over k out = quiet k out

unfoldable pub said_of : Kept → List ℕ → Said
said_of k out = said_at k.stage k out

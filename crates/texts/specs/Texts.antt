-- Texts that a host cuts, reads, escapes and unescapes: what became of one, in plain numbers. A message is read by the delimiters that it names; to escape and
-- unescape, a host hands them over, four bytes in the order of a header.
-- Assumes nothing.
use Rattle.faults.specs.declared.Refusal.{Refusal}
use Rattle.escaping.specs.declared.Refusal.{Refusal as EscapeRefusal}
use Rattle.std.specs.Prelude.{ℕ, ◌≡◌, List, length, Err, Ok, Result}
use Rattle.memory.specs.Sizes.{frame_limit}
use Rattle.kinds.specs.Delimiters.{four_at}
use Rattle.records.specs.Records.{records}
use Rattle.escaping.specs.Escape.{escape_answer, escaped_over}
use Rattle.escaping.specs.Unescape.{unescape_answer, unescaped_over}
use Rattle.owner.specs.Owners.{types_of, owners_of}
use Rattle.owner.specs.Reading.{offsets_of, lengths_of, reading_of, laid}
use Rattle.cutting.specs.Frames.{cut_answer, cut_in}
use Rattle.answers.specs.InNumbers.{done, refused_with}
use Rattle.answers.specs.declared.Answer.TheVariants.{Malformed, NotFitting, Faulty}
use Rattle.answers.specs.declared.Fault.TheVariants.{BadDelimiters}
use Rattle.answers.specs.declared.Made.{Made}

-- what became of a text that was cut or read
unfoldable pub made_of : Result ℕ Refusal → Made
made_of (Ok n) = done n
made_of (Err Refusal.Malformed) = refused_with Malformed
made_of (Err Refusal.NotFitting) = refused_with NotFitting
made_of (Err (Refusal.Faulty f place)) = refused_with (Faulty f place)

-- a four that is not allowed has no record, and so no place [A55]
unfoldable pub made_by_putting : Result ℕ EscapeRefusal → Made
made_by_putting (Ok n) = done n
made_by_putting (Err EscapeRefusal.Malformed) = refused_with Malformed
made_by_putting (Err EscapeRefusal.NotFitting) = refused_with NotFitting
made_by_putting (Err EscapeRefusal.BadDelimiters) = refused_with (Faulty BadDelimiters 0)

-- a message cut into frames of today's limit
pub record CutFrames (text out : List ℕ) (r : Made) (out' : List ℕ) : Type 0 where
  pub result : r ≡ made_of (cut_answer frame_limit text out)
  pub after : out' ≡ cut_in frame_limit text out

-- a text with its delimiters escaped
pub record Escaped (four text out : List ℕ) (r : Made) (out' : List ℕ) : Type 0 where
  pub result : r ≡ made_by_putting (escape_answer (four_at 0 four) text out)
  pub after : out' ≡ escaped_over (four_at 0 four) text out

-- a component with its escapes taken out
pub record Unescaped (four c out : List ℕ) (r : Made) (out' : List ℕ) : Type 0 where
  pub result : r ≡ made_by_putting (unescape_answer (four_at 0 four) c out)
  pub after : out' ≡ unescaped_over (four_at 0 four) c out

-- a message read: types, offsets, lengths and owners of its records
abbrev pub reading_into : List ℕ → List ℕ → List ℕ → List ℕ → List ℕ → Result ℕ Refusal
reading_into text ts os ls ws = reading_of text (length ts) (length os) (length ls) (length ws)

pub record RecordsRead (text ts os ls ws : List ℕ) (r : Made) (ts' os' ls' ws' : List ℕ) : Type 0 where
  pub result : r ≡ made_of (reading_into text ts os ls ws)
  pub types : ts' ≡ laid (reading_into text ts os ls ws) ts (types_of (records text))
  pub offsets : os' ≡ laid (reading_into text ts os ls ws) os (offsets_of 0 (records text))
  pub lengths : ls' ≡ laid (reading_into text ts os ls ws) ls (lengths_of (records text))
  pub owners : ws' ≡ laid (reading_into text ts os ls ws) ws (owners_of (records text))

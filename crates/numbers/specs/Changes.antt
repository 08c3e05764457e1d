-- What each function does to the numbers. On a line that is not there nothing changes.
-- Assumes nothing.
use Rattle.std.specs.Prelude.{ℕ, ◌+◌, ◌≡◌, Bool, not, ◌&&◌, List, length, set, ltb, eqb}
use Rattle.memory.specs.Sizes.{lines, frames_size}
use Rattle.memory.specs.Tests.{unless}
use Rattle.line.specs.Line.{fresh_line}
use Rattle.line.specs.declared.Line.{Line}
use Rattle.looking.specs.Views.{frame_start}
use Rattle.looking.specs.declared.Kind.{Kind}
use Rattle.layout.specs.Layout.{collected_at, speaks_at, number_at, frames}
use Rattle.numbers.specs.Plain.{line_of, within_numbers, quick, one_more, begins, inside_at, with_line}

-- whether a line's numbers stand for a record within its limits
unfoldable pub is_within : List ℕ → ℕ → Bool
is_within ns i = ltb i lines && within_numbers ns i

-- the record that they stand for; where they stand for none, that of a fresh line
abbrev pub record_of : List ℕ → ℕ → Line
record_of ns i = unless (is_within ns i) fresh_line (line_of ns i)

-- whether a line is a strip reader's
unfoldable pub is_reader : List ℕ → ℕ → Bool
is_reader ns i = ltb i lines && not (eqb (number_at ns i speaks_at) frames)

-- whether a byte is only collected, in frames of the right size
unfoldable pub is_collected : List ℕ → ℕ → ℕ → List ℕ → Bool
is_collected ns i b f = ltb i lines && (eqb (length f) frames_size && quick ns i b)

-- then it stands behind those collected, and one more is
pub record Collected (ns : List ℕ) (i b : ℕ) (f : List ℕ) (r : Bool) (ns' f' : List ℕ) : Type 0 where
  pub result : r ≡ is_collected ns i b f
  pub numbers : ns' ≡ unless (is_collected ns i b f) ns (one_more ns i)
  pub frames : f' ≡ unless (is_collected ns i b f) f (set f (frame_start i + number_at ns i collected_at) b)

-- whether an event only begins a frame; then the line is inside one
unfoldable pub is_begun : List ℕ → ℕ → Kind → Bool
is_begun ns i k = ltb i lines && begins ns i k

pub record Begun (ns : List ℕ) (i : ℕ) (k : Kind) (r : Bool) (ns' : List ℕ) : Type 0 where
  pub result : r ≡ is_begun ns i k
  pub numbers : ns' ≡ unless (is_begun ns i k) ns (inside_at ns i)

-- another record
abbrev pub record_after : List ℕ → ℕ → Line → List ℕ
record_after ns i l = unless (ltb i lines) ns (with_line ns i l)

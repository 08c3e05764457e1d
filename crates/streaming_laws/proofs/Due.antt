-- What is still to be written of a trace on its way, and how much of it is still to be done.
-- Assumes nothing.
use Prim.Native.Nat.{ℕ, ◌+◌, ◌*◌, ◌-◌, ◌^◌, ◌≤◌, ◌<◌}
use mathlib.Core.Path.{◌≡◌}
use mathlib.Core.Bool.{Bool, true, false}
use mathlib.Core.List.{List, [], ◌++◌}
use lib.ListN.{length}
use Rattle.memory.specs.Tests.{is, find}
use Rattle.listing.specs.Items.{line_limit}
use Rattle.listing.specs.Texts.{newline, header_text, total_text, fault_text}
use Rattle.replaying.specs.Desk.{row_room, Desk}
use Rattle.replaying.specs.Runs.{following}
use Rattle.replaying.specs.Listed.{listing_of}
use Rattle.streaming.specs.Stages.{wants}
use Rattle.streaming.specs.Inner.Places.{LiesIn}
use Rattle.streaming.specs.Streams.{Stream, waiting, shown}
use Rattle.streaming.specs.declared.Kept.{Kept}
use Rattle.streaming.specs.declared.Stage.{Stage}
use Rattle.streaming.specs.declared.Stage.TheVariants.{Begins, Runs, Wants, Total, Fault, Over}
use Rattle.streaming_laws.specs.Listings.{whole_of, text_of}

-- the rows and the closing line, where `more` comes behind what waits; at the end of a trace nothing does, and its last line has its newline
abbrev pub rows_due : Bool → List ℕ → List ℕ → ℕ → Desk → List ℕ
rows_due false waits more n d = text_of (whole_of (waits ++ more) n d)
rows_due true waits more n d = text_of (listing_of waits n d)

abbrev pub due_at : Stage → Kept → List ℕ → List ℕ → Desk → List ℕ
due_at Begins k waits more d = header_text ++ rows_due k.ended waits more k.events d
due_at Runs k waits more d = rows_due k.ended waits more k.events d
due_at Wants k waits more d = rows_due false waits more k.events d
due_at Total k waits more d = total_text k.events
due_at Fault k waits more d = fault_text (following k.events)
due_at Over k waits more d = []

abbrev pub due : Stream → List ℕ → List ℕ
due s more = due_at s.kept.stage s.kept (waiting s.kept s.input) more s.desk

-- how many turns it takes at most, with so many bytes still to come
abbrev pub running : Bool → ℕ → ℕ → ℕ
running false waits left = waits + 2 * left + 4
running true waits left = waits + 2

abbrev pub turns_at : Stage → Bool → ℕ → ℕ → ℕ
turns_at Begins ended waits left = running ended waits left + 1
turns_at Runs ended waits left = running ended waits left
turns_at Wants ended waits left = running false waits left
turns_at Total ended waits left = 1
turns_at Fault ended waits left = 1
turns_at Over ended waits left = 0

abbrev pub turns : Stream → ℕ → ℕ
turns s left = turns_at s.kept.stage s.kept.ended (s.kept.end - s.kept.from) left

-- where more is wanted, what waits is at the start of the input and has no newline
abbrev pub Wanting : Bool → Kept → List ℕ → Type 0
Wanting true k input = (k.from ≡ 0) × (k.end ≤ line_limit) × (find (is newline) (waiting k input) ≡ length (waiting k input))
Wanting false k input = Unit {0}

-- what holds all the way
pub record Fine (s : Stream) : Type 0 where
  pub lies : LiesIn s.kept (length s.input)
  pub long_input : line_limit < length s.input
  pub long_out : row_room ≤ length s.out
  pub counted : s.kept.events < 2 ^ 64
  pub wanting : Wanting (wants s.kept.stage) s.kept s.input

-- fewer turns are left, but where the read has still to come, or nothing has
abbrev pub Fewer : Stage → ℕ → ℕ → Type 0
Fewer Begins a b = a < b
Fewer Runs a b = a < b
Fewer Wants a b = a ≤ b
Fewer Total a b = a < b
Fewer Fault a b = a < b
Fewer Over a b = Unit {0}

-- a turn writes the first of what is due, and leaves the rest due
pub record Turns (s t : Stream) : Type 0 where
  pub fine : Fine t
  pub writes : (more : List ℕ) → due s more ≡ shown t ++ due t more
  pub fewer : (left : ℕ) → Fewer t.kept.stage (turns t left) (turns s left)

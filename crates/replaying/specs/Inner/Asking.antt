-- What a line asks, and its row.
-- Assumes nothing.
use Rattle.std.specs.Prelude.{◌≡◌, ℕ, ◌+◌, ◌≤◌, List, length}
use Rattle.memory.specs.Parts.{splice}
use Rattle.listing.specs.declared.Item.{Item}
use Rattle.listing.specs.declared.Item.TheVariants.{Event, Taking}
use Rattle.listing.specs.Texts.{row_text}
use Rattle.answers.specs.declared.Answered.{Answered}
use Rattle.replaying.specs.Desk.{Desk, Asked, event_asked, taking_asked}

abbrev pub ask_leaves : Answered → Desk → Asked
ask_leaves a d = record { answered = a; desk = d }

-- an event, or a taking
abbrev pub asked_by : Item → Desk → Asked
asked_by (Event e) d = event_asked e d
asked_by (Taking line n) d = taking_asked line n d

-- the line that it is on
abbrev pub line_of : Item → ℕ
line_of (Event e) = e.line
line_of (Taking line n) = line

-- a row put behind `put` bytes of a listing, and where it ends
pub record RowPut (number line answer size : ℕ) (out : List ℕ) (put end : ℕ) (out' : List ℕ) : Type 0 where
  pub ends : end ≡ put + length (row_text number line answer size)
  pub after : out' ≡ splice out put (row_text number line answer size)
  pub within : end ≤ length out'

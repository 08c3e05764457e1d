-- The listing of a trace, with as much room as it needs: what a run of its pieces comes to.
-- Assumes nothing.
use Rattle.listing.specs.declared.Item.TheVariants.{Event, Taking}
use Rattle.listing.specs.declared.Item.{Item}
use Rattle.std.specs.Prelude.{ℕ, zero, suc, List, [], ◌++◌, length, drop, None, Option, Some}
use Rattle.replaying.specs.Lines.{Next, Whole, Unended, first_line}
use Rattle.replaying.specs.Desk.{Desk, Asked, event_asked, taking_asked}
use Rattle.replaying.specs.Turns.{row_of}
use Rattle.replaying.specs.Runs.{following}
use Rattle.replaying.specs.declared.Stop.{Stop}
use Rattle.replaying.specs.declared.Stop.TheVariants.{Input, NotAnEvent}

-- the rows of a text's lines, the count and the desk after them, the text that is left, and why: no whole line is left, or its next line is not an event
pub record Listed : Type 0 where
  pub rows : List ℕ
  pub events : ℕ
  pub desk : Desk
  pub rest : List ℕ
  pub stop : Stop

abbrev pub no_rows : Stop → List ℕ → ℕ → Desk → Listed
no_rows s text n d = record { rows = []; events = n; desk = d; rest = text; stop = s }

-- rows in front of others
abbrev pub in_front : List ℕ → Listed → Listed
in_front rows l = record { rows = rows ++ l.rows; events = l.events; desk = l.desk; rest = l.rest; stop = l.stop }

-- an answer's row, and what the desk then comes to
abbrev pub row_then : ℕ → ℕ → Asked → (Desk → Listed) → Listed
row_then number line a go = in_front (row_of number line a.answered) (go a.desk)

-- by what the first line asks; at one that is no event the rows end [T10]
abbrev pub by_item : Option Item → List ℕ → ℕ → Desk → (Desk → Listed) → Listed
by_item (Some (Event e)) text n d go = row_then (following n) e.line (event_asked e d) go
by_item (Some (Taking line k)) text n d go = row_then (following n) line (taking_asked line k d) go
by_item None text n d go = no_rows NotAnEvent text n d

abbrev pub by_line : Next → List ℕ → ℕ → Desk → (ℕ → Desk → Listed) → Listed
by_line Unended text n d go = no_rows Input text n d
by_line (Whole item behind) text n d go = by_item item text n d (go behind)

-- at most `most` lines
unfoldable pub listed : ℕ → List ℕ → ℕ → Desk → Listed
listed zero text n d = no_rows Input text n d
listed (suc most) text n d = by_line (first_line text 0) text n d (λ behind e. listed most (drop behind text) (following n) e)

-- the whole text, which has no more lines than bytes [T11]
abbrev pub listing_of : List ℕ → ℕ → Desk → Listed
listing_of text n d = listed (length text) text n d

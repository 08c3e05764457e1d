-- One line replayed: what it leaves of the listing and the desk.
-- Assumes nothing.
use Rattle.listing.specs.declared.Item.TheVariants.{Event, Taking}
use Rattle.listing.specs.declared.Item.{Item}
use Rattle.std.specs.Prelude.{ℕ, ◌+◌, List, length, nat_le, None, Option, Some}
use Rattle.memory.specs.Parts.{splice}
use Rattle.memory.specs.Tests.{unless}
use Rattle.listing.specs.Texts.{row_text}
use Rattle.answers.specs.declared.Answered.{Answered}
use Rattle.replaying.specs.Lines.{Next, Whole, Unended, next_of}
use Rattle.replaying.specs.Desk.{row_room, Desk, Asked, event_asked, taking_asked}
use Rattle.replaying.specs.declared.Stop.{Stop}
use Rattle.replaying.specs.declared.Stop.TheVariants.{Input, Output, NotAnEvent}

-- one line replayed, with where the next one and the next row start; or nothing done
pub data Turn : Type 0 where
  Went : ℕ → ℕ → Turn
  Stopped : Stop → Turn

pub record AfterTurn : Type 0 where
  pub turn : Turn
  pub out : List ℕ
  pub desk : Desk

abbrev pub turn_leaves : Turn → List ℕ → Desk → AfterTurn
turn_leaves r out d = record { turn = r; out = out; desk = d }

-- nothing done
abbrev pub stopped : Stop → List ℕ → Desk → AfterTurn
stopped s out d = turn_leaves (Stopped s) out d

-- an answer's row, put into the listing
abbrev pub row_of : ℕ → ℕ → Answered → List ℕ
row_of number line a = row_text number line a.number a.length

abbrev pub wrote : ℕ → ℕ → ℕ → List ℕ → ℕ → Asked → AfterTurn
wrote number line behind out put a = record {
  turn = Went behind (put + length (row_of number line a.answered));
  out = splice out put (row_of number line a.answered);
  desk = a.desk;
}

-- by what the line asks
abbrev pub acted : Option Item → ℕ → ℕ → List ℕ → ℕ → Desk → AfterTurn
acted (Some (Event e)) number behind out put d = wrote number e.line behind out put (event_asked e d)
acted (Some (Taking line n)) number behind out put d = wrote number line behind out put (taking_asked line n d)
acted None number behind out put d = stopped NotAnEvent out d

abbrev pub on_line : Next → ℕ → List ℕ → ℕ → Desk → AfterTurn
on_line Unended number out put d = stopped Input out d
on_line (Whole item behind) number out put d = acted item number behind out put d

-- the line that starts at `at`, as event `number`; before all it has room for its row
unfoldable pub turn_of : ℕ → List ℕ → ℕ → List ℕ → ℕ → Desk → AfterTurn
turn_of number input at out put d = unless (nat_le (put + row_room) (length out)) (stopped Output out d) (on_line (next_of input at) number out put d)

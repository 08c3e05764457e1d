-- What comes next in a trace: what a line asks, or why a run stops.
-- Assumes nothing.
use Rattle.listing.specs.declared.Item.{Item}
use Rattle.std.specs.Prelude.{ℕ, ◌+◌, List, length, nat_le, nat_lt, None, Option, Some, Ok, Err, Result}
use Rattle.memory.specs.Tests.{is, find, unless}
use Rattle.listing.specs.Texts.{newline}
use Rattle.replaying.specs.Lines.{Next, Whole, Unended, next_of}
use Rattle.replaying.specs.Desk.{row_room}
use Rattle.replaying.specs.declared.lines.Asks.{Asks}
use Rattle.replaying.specs.declared.Stop.{Stop}
use Rattle.replaying.specs.declared.Stop.TheVariants.{Input, Output, NotAnEvent}

-- the length of the first line, if it ends
unfoldable pub line_length : List ℕ → Option ℕ
line_length text = let n = find (is newline) text in unless (nat_lt n (length text)) None (Some n)

-- an item
abbrev pub asks_of_item : Option Item → ℕ → Result Asks Stop
asks_of_item (Some item) behind = Ok (record { item = item; behind = behind })
asks_of_item None behind = Err NotAnEvent

-- the next line, or none
abbrev pub asks_by : Next → Result Asks Stop
asks_by Unended = Err Input
asks_by (Whole item behind) = asks_of_item item behind

-- the line that starts at `at`; before all there is room for its row
abbrev pub asks_of : List ℕ → ℕ → ℕ → ℕ → Result Asks Stop
asks_of input at put most = unless (nat_le (put + row_room) most) (Err Output) (asks_by (next_of input at))

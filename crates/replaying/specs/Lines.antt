-- The lines of a trace: each is what stands before a newline.
-- Assumes nothing.
use Rattle.listing.specs.declared.Item.{Item}
use Rattle.std.specs.Prelude.{ℕ, ◌+◌, List, length, take, drop, nat_lt, Option}
use Rattle.memory.specs.Tests.{is, find, unless}
use Rattle.listing.specs.Texts.{newline}
use Rattle.listing.specs.Items.{item_of}

-- the next line: its item and where the line behind it starts; or no whole line
pub data Next : Type 0 where
  Whole : Option Item → ℕ → Next
  Unended : Next

-- the first line of a text: its item, and where the text behind it starts, `at` bytes having stood before it
unfoldable pub first_line : List ℕ → ℕ → Next
first_line text at =
    let n = find (is newline) text in
    unless (nat_lt n (length text)) Unended (Whole (item_of (take n text)) (at + n + 1))

-- the line that starts at `at`
abbrev pub next_of : List ℕ → ℕ → Next
next_of input at = first_line (drop at input) at

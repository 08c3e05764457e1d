-- A line of the usual length, seen without a scan.
-- Assumes nothing.
use Rattle.std.specs.Prelude.{ℕ, ◌+◌, Bool, not, ◌&&◌, ◌||◌, List, length, nat_lt, slice_index}
use Rattle.memory.specs.Tests.{is}
use Rattle.listing.specs.Texts.{newline}

-- the length of the usual line, as `0 B 41`
abbrev pub usual : ℕ
usual = 6

-- one of the three bytes from `at` on is a newline
unfoldable pub has_newline : List ℕ → ℕ → Bool
has_newline text at = is newline (slice_index text at) || (is newline (slice_index text (at + 1)) || is newline (slice_index text (at + 2)))

-- a text begins with a line of that length
unfoldable pub is_usual : List ℕ → Bool
is_usual text = nat_lt usual (length text) && (is newline (slice_index text usual) && (not (has_newline text 0) && not (has_newline text 3)))

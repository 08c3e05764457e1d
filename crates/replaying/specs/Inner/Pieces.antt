-- What a run of a piece is to the listing of the whole trace.
-- Assumes nothing.
use Rattle.std.specs.Prelude.{◌≡◌, ℕ, ◌+◌, ◌^◌, ◌<◌, ◌≤◌, List, ◌++◌, length, take, drop}
use Rattle.memory.specs.Parts.{splice}
use Rattle.memory.specs.Tests.{is, find}
use Rattle.listing.specs.Texts.{newline}
use Rattle.replaying.specs.Desk.{row_room, Desk}
use Rattle.replaying.specs.Runs.{AfterRun}
use Rattle.replaying.specs.Listed.{no_rows, in_front, listing_of}
use Rattle.replaying.specs.declared.Stop.{Stop}
use Rattle.replaying.specs.declared.Stop.TheVariants.{Input, Output, NotAnEvent}

-- why a run stopped: no newline is left in its piece; no room is left, and where there was any, a line was run; or the listing of all that was left ends there, whatever stands behind the piece
abbrev pub Because : Stop → AfterRun → List ℕ → ℕ → ℕ → List ℕ → Type 0
Because Input r input at put out = let rest = drop r.progress.read input in find (is newline) rest ≡ length rest
Because Output r input at put out = put + row_room ≤ length out → at < r.progress.read
Because NotAnEvent r input at put out =
    (more : List ℕ) → let left = drop r.progress.read input ++ more in listing_of left r.progress.events r.desk ≡ no_rows NotAnEvent left r.progress.events r.desk

-- a run over a piece, from `at` on: its rows are the first of the listing of all that was left, whatever stands behind the piece, and the listing goes on where the run stopped
pub record Goes (r : AfterRun) (input : List ℕ) (at put : ℕ) (out : List ℕ) (n : ℕ) (d : Desk) : Type 0 where
  pub rows : List ℕ
  pub forward : at ≤ r.progress.read
  pub within : r.progress.read ≤ length input
  pub written : r.progress.written ≡ put + length rows
  pub goes_on : (more : List ℕ) → listing_of (drop at input ++ more) n d ≡ in_front rows (listing_of (drop r.progress.read input ++ more) r.progress.events r.desk)
  pub writes : put + length rows ≤ length out → r.out ≡ splice out put rows
  pub shows : put ≤ length out → take (put + length rows) r.out ≡ take put out ++ rows
  pub no_shorter : length out ≤ length r.out
  pub counted : n < 2 ^ 64 → r.progress.events < 2 ^ 64
  pub because : Because r.progress.stop r input at put out

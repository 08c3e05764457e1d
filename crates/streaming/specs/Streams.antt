-- A turn: what it makes of what is kept, the two buffers and the gateway's desk.
-- Assumes nothing.
use Rattle.std.specs.Prelude.{ℕ, ◌-◌, cond, ◌&&◌, List, length, take, drop, nat_le}
use Rattle.memory.specs.Tests.{unless}
use Rattle.replaying.specs.Desk.{Desk}
use Rattle.replaying.specs.Runs.{AfterRun, piece_of}
use Rattle.streaming.specs.Stages.{is_running, nothing}
use Rattle.streaming.specs.Handed.{handed, moved}
use Rattle.streaming.specs.Said.{said_of}
use Rattle.streaming.specs.declared.Kept.{Kept}

-- a trace on its way
pub record Stream : Type 0 where
  pub kept : Kept
  pub input : List ℕ
  pub out : List ℕ
  pub desk : Desk

abbrev pub stream_of : Kept → List ℕ → List ℕ → Desk → Stream
stream_of k input out d = record { kept = k; input = input; out = out; desk = d }

-- the bytes that wait
abbrev pub waiting : Kept → List ℕ → List ℕ
waiting k input = take (k.end - k.from) (drop k.from input)

-- what a turn has put at the start of the output
abbrev pub shown : Stream → List ℕ
shown s = take s.kept.written s.out

-- what waits is run
abbrev pub handed_on : Stream → AfterRun → Stream
handed_on s r = stream_of (handed s.kept r.progress) (moved s.kept r.progress s.input) r.out r.desk

-- where it does not lie in the input, nothing is done
unfoldable pub ran : Stream → Stream
ran s =
    unless (nat_le s.kept.from s.kept.end && nat_le s.kept.end (length s.input)) (stream_of nothing s.input s.out s.desk)
    (handed_on s (piece_of s.kept.events (waiting s.kept s.input) s.out s.desk))

-- a line that is no row is written
abbrev pub spoken : Stream → Stream
spoken s = let said = said_of s.kept s.out in stream_of said.kept s.input said.out s.desk

-- one turn
unfoldable pub turned : Stream → Stream
turned s = cond (is_running s.kept.stage) (ran s) (spoken s)

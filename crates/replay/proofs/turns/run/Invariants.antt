-- Before a turn: what waits lies in the input; and where the bytes of the trace are known, what is written and what is due behind it is its listing.
use Rattle.std.proofs.Common.{length}
use Rattle.replaying.specs.Lents.{desk}
use Rattle.streaming.specs.Inner.Places.{LiesIn}
use Rattle.streaming.specs.Streams.{stream_of}
use Rattle.replay.proofs.Going.{Onward}
use Rattle.replay.proofs.turns.run.Given as goal

abbrev pub invariant-loop : goal.invariant-loop
invariant-loop g l = record {
  lies : LiesIn l.kept (length l.input);
  onward : Onward l.n l.fn.input (g.T.Read.remaining l.initial.trace) (g.W.Write.contents l.initial.listing)
      (stream_of l.kept l.input l.out (desk l.lent)) l.counter (g.T.Read.remaining l.trace) (g.W.Write.contents l.listing);
}

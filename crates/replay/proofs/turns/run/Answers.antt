-- What waits lies in the input behind a turn.
use Rattle.std.proofs.Common.{sym, arith}
use Rattle.streaming.proofs.Places.{begun_lies, after_turn}
use Rattle.replay.proofs.Going.{onward_starts, onward_on, onward_listed, onward_spent, desk_fresh}
use Rattle.replay.proofs.turns.run.Goals as goal

pub loop-init : goal.loop-init
loop-init g c =
    record {
      lies = begun_lies _ _ c.begin-kept.ensures c.requires;
      onward = onward_starts c.args.n c.args.input.now _ _ _ _ _ c.requires (omega arith) c.begin-kept.ensures (desk_fresh _ _ c.fresh.ensures);
    }

pub pass-requires : goal.pass-requires
pass-requires g c = (after_turn _ c.turn-kept.ensures.turn.0 c.loop.invariant.lies, c.turn-kept.ensures.turn.1)

pub returns-then-is_over : goal.returns-then-is_over
returns-then-is_over g c = onward_listed _ _ _ _ _ _ _ _ c.loop.invariant.onward _ _ _ _ _ _ _ _ c.turn-kept.ensures.turn.0 c.in_ok-kept.ensures.passes (sym c.if-is_over.ensures)

pub loop-preserved : goal.loop-preserved
loop-preserved g c =
    record {
      lies = c.in_ok-kept.ensures.lies;
      onward = onward_on _ _ _ _ _ _ _ _ c.loop.invariant.onward _ _ _ _ _ _ _ _ c.turn-kept.ensures.turn.0 c.in_ok-kept.ensures.passes (sym c.if-is_over.ensures);
    }

pub returns : goal.returns
returns g c = onward_spent _ _ _ _ _ _ _ _ (omega arith) c.loop.invariant.onward

-- What a run leaves: what comes next, and the unread rest.
-- Assumes nothing.
use Rattle.std.specs.Prelude.{ℕ, ◌+◌, ◌-◌, Bool, false, cond, List, nat_lt}
use Rattle.memory.specs.Moves.{closed_up}
use Rattle.listing.specs.Items.{line_limit}
use Rattle.replaying.specs.declared.Progress.{Progress}
use Rattle.replaying.specs.declared.Stop.{Stop}
use Rattle.replaying.specs.declared.Stop.TheVariants.{Input, Output, NotAnEvent}
use Rattle.streaming.specs.declared.Kept.{Kept}
use Rattle.streaming.specs.declared.Stage.TheVariants.{Runs, Wants, Total, Fault}
use Rattle.streaming.specs.Stages.{wants, closes}

-- all whole lines are run, and n bytes are left: a line that is too long is not an event, wherever it ends
unfoldable pub onward : ℕ → Bool → ℕ → ℕ → Kept
onward n ended events written =
    cond ended (closes events written Total)
    (cond (nat_lt line_limit n) (closes events written Fault)
    (record { from = 0; end = n; events = events; ended = false; written = written; stage = Wants }))

-- no room for a row: the rest is run next; a line that is not an event: it is told; no newline: more is read
abbrev pub by_stop : Stop → Kept → Progress → Kept
by_stop Output k p = record { from = k.from + p.read; end = k.end; events = p.events; ended = k.ended; written = p.written; stage = Runs }
by_stop NotAnEvent k p = closes p.events p.written Fault
by_stop Input k p = onward (k.end - (k.from + p.read)) k.ended p.events p.written

unfoldable pub handed : Kept → Progress → Kept
handed k p = by_stop p.stop k p

-- where more is wanted, what is left moves to the start of the input
unfoldable pub moved : Kept → Progress → List ℕ → List ℕ
moved k p input = cond (wants (handed k p).stage) (closed_up input 0 (k.from + p.read) k.end) input

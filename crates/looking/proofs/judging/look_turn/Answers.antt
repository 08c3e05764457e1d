-- `looking::judging::look_turn` meets its contract.
-- Assumes nothing.
use mathlib.Core.Path.{sym, ◌∙◌}
use native.Mathlib.Omega.{arith}
use Rattle.line.proofs.Limits.{within_facts}
use Rattle.memory.proofs.Parts.{part_lent}
use Rattle.looking.specs.Views.{text_start, frame_start}
use Prim.Native.Nat.{◌+◌}
use Rattle.looking.proofs.Views.{lent_unfinished, lent_text}
use Rattle.looking.proofs.judging.look_turn.Goals as goal

pub slice_bounds-look_end-end : goal.slice_bounds-look_end-end
slice_bounds-look_end-end c = omega (arith, within_facts c.args.line c.requires.0.within, c.requires.0)

pub returns-in-Refused : goal.returns-in-Refused
returns-in-Refused c = rw (sym c.in_turn.ensures ∙ c.in-Refused.is) c.done.ensures

pub returns-in-Again : goal.returns-in-Again
returns-in-Again c = rw (sym c.in_turn.ensures ∙ c.in-Again.is) c.done-in-Again.ensures

pub returns-in-Missed : goal.returns-in-Missed
returns-in-Missed c = rw (sym c.in_turn.ensures ∙ c.in-Missed.is) c.done-in-Missed.ensures

pub returns-in-Overlong : goal.returns-in-Overlong
returns-in-Overlong c = rw (sym c.in_turn.ensures ∙ c.in-Overlong.is) c.done-in-Overlong.ensures

pub returns-in-InTurn : goal.returns-in-InTurn
returns-in-InTurn c =
    let a = c.args in
    rw (
      sym c.in_turn.ensures ∙ c.in-InTurn.is,
      ← lent_unfinished a.line a.i a.unfinished.now a.frames.now c.requires.0,
      ← lent_text a.line a.i a.unfinished.now a.frames.now c.requires.0 a.n c.requires.1,
      ← part_lent a.unfinished.now (text_start a.i) a.line.joined,
      ← part_lent a.frames.now (frame_start a.i + 1) a.n,
    )
    c.look_end.ensures

pub slice_bounds-look_end-end-in-InTurn : goal.slice_bounds-look_end-end-in-InTurn
slice_bounds-look_end-end-in-InTurn c = omega (arith, within_facts c.args.line c.requires.0.within, c.requires)

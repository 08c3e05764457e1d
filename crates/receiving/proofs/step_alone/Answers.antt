-- `receiving::step_alone` meets its contract: the look, and the row of its verdict.
-- Assumes nothing.
use mathlib.Core.Path.{sym, subst, ◌∙◌}
use Rattle.looking.specs.declared.Look.{Look}
use Rattle.looking.proofs.Alone.{Acts, alone_acts}
use Rattle.receiving.proofs.Steps.{alone_settled, alone_decides}
use Rattle.receiving.proofs.step_alone.Goals as goal

pub settle-line-requires : goal.settle-line-requires
settle-line-requires c =
    let acts : (let a = c.args in Acts c.look_alone-look.result a.line a.e.line a.unfinished.now a.frames.now) = let a = c.args in
    subst (λ (k : Look). Acts k a.line a.e.line a.unfinished.now a.frames.now) (sym c.look_alone-look.ensures) (alone_acts a.line a.e a.journal a.unfinished.now a.frames.now) in
    let a = c.args in
    let act = subst (λ (k : Look). Acts k a.line a.e.line a.unfinished.now a.frames.now) c.in-Done.is acts in
    act

pub returns-in-Done : goal.returns-in-Done
returns-in-Done c =
    let a = c.args in
    alone_settled a.line a.e a.journal a.unfinished.now a.frames.now (sym c.in-Done.is ∙ c.look_alone-look.ensures) c.settle-line.ensures

pub returns-in-Decides : goal.returns-in-Decides
returns-in-Decides c =
    let a = c.args in
    alone_decides a.line a.e a.journal a.unfinished.now a.frames.now c.look_alone-look.ensures c.in-Decides.is

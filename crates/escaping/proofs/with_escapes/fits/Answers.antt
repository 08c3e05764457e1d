-- `escaping::with_escapes::fits` meets its contract: what is left to put out fits into the room that is left just if all fits into all.
-- Assumes nothing.
use borrow.Author.Rules.{rules}
use mathlib.Core.Path.{refl}
use Rattle.escaping.proofs.Escapes.{room_none, room_less, room_done}
use Rattle.escaping.proofs.with_escapes.fits.Goals as goal

pub loop-b-init : goal.loop-b-init
loop-b-init c = λ d table. refl

pub returns-then-left-w : goal.returns-then-left-w
returns-then-left-w c =
    let l = c.loop-b in
    let a = c.args in
    λ d table. room_none d a.text.now l.b-index c.width_of-w.result l.left (search rules) (c.width_of-w.ensures d table) _ c.if-left-w.true (l.invariant d table)

pub loop-b-preserved : goal.loop-b-preserved
loop-b-preserved c =
    let l = c.loop-b in
    let a = c.args in
    λ d table. room_less d a.text.now l.b-index c.width_of-w.result l.left (search rules) (c.width_of-w.ensures d table) _ c.if-left-w.false (l.invariant d table)

pub returns : goal.returns
returns c =
    let l = c.loop-b in
    let a = c.args in
    λ d table. room_done d a.text.now l.b-index l.left _ (search rules) (l.invariant d table)

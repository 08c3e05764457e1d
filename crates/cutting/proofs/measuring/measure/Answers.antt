-- `cutting::measuring::measure` meets its contract: what is measured and what is left are the length of all frames.
-- Assumes nothing.
use mathlib.Core.Path.{◌≡◌, ap}
use Prim.Native.Nat.{suc, ◌+◌, ◌≤◌}
use native.Mathlib.Omega.{arith}
use lib.ListN.{length, drop, drop_of_length-le}
use Rattle.pieces.specs.Pieces.{pieces_of}
use Rattle.pieces.proofs.Steps.{Turn, turn, ended_tail}
use Rattle.cutting.proofs.measuring.measure.Goals as goal

pub loop-at-init : goal.loop-at-init
loop-at-init c = record { at_within = omega arith; counted = omega arith; small = omega arith }

pub piece_length-n-requires : goal.piece_length-n-requires
piece_length-n-requires c = (omega arith, ended_tail c.args.text.now c.loop-at.at c.requires.2 (omega arith))

pub loop-at-preserved : goal.loop-at-preserved
loop-at-preserved c =
    let turned : (let a = c.args in Turn a.limit a.text.now c.loop-at.at c.piece_length-n.result) = let a = c.args in
    turn a.limit a.text.now c.loop-at.at c.piece_length-n.result (omega arith) (omega arith) c.piece_length-n.ensures in
    let a = c.args in
    let at = c.loop-at.at in
    let next = at + c.piece_length-n.result in
    let t = turned in
    let one_less : length (pieces_of a.limit (drop at a.text.now)) ≡ suc (length (pieces_of a.limit (drop next a.text.now))) = ap length t.cut in
    record { at_within = omega (arith, t.within); counted = omega (arith, t.within, one_less); small = omega (arith, t.some) }

pub returns : goal.returns
unfolding pieces_of
returns c =
    let text = c.args.text.now in
    let past : length text ≤ c.loop-at.at = omega arith in
    let z = rw (drop_of_length-le text past) at c.loop-at.invariant.counted in
    omega (arith, z)

pub overflow_add-total : goal.overflow_add-total
overflow_add-total c =
    let turned : (let a = c.args in Turn a.limit a.text.now c.loop-at.at c.piece_length-n.result) = let a = c.args in
    turn a.limit a.text.now c.loop-at.at c.piece_length-n.result (omega arith) (omega arith) c.piece_length-n.ensures in
    omega (arith, turned.within, c.requires)

pub overflow_add-total-in-loop-at : goal.overflow_add-total-in-loop-at
overflow_add-total-in-loop-at c =
    let turned : (let a = c.args in Turn a.limit a.text.now c.loop-at.at c.piece_length-n.result) = let a = c.args in
    turn a.limit a.text.now c.loop-at.at c.piece_length-n.result (omega arith) (omega arith) c.piece_length-n.ensures in
    omega (arith, turned.within, turned.some, c.requires)

pub overflow_add-at : goal.overflow_add-at
overflow_add-at c =
    let turned : (let a = c.args in Turn a.limit a.text.now c.loop-at.at c.piece_length-n.result) = let a = c.args in
    turn a.limit a.text.now c.loop-at.at c.piece_length-n.result (omega arith) (omega arith) c.piece_length-n.ensures in
    omega (arith, turned.within, c.requires)

pub loop-at-smaller : goal.loop-at-smaller
loop-at-smaller c =
    let turned : (let a = c.args in Turn a.limit a.text.now c.loop-at.at c.piece_length-n.result) = let a = c.args in
    turn a.limit a.text.now c.loop-at.at c.piece_length-n.result (omega arith) (omega arith) c.piece_length-n.ensures in
    omega (arith, turned.within, turned.some)

-- `cutting::writing::write_all` meets its contract: what is written and what is left to write are all frames.
-- Assumes nothing.
use mathlib.Core.Path.{◌≡◌, refl, sym, ◌∙◌}
use Prim.Native.Nat.{◌+◌, ◌-◌, ◌≤◌}
use native.Mathlib.Omega.{arith}
use lib.ListN.{length, length-drop}
use Rattle.memory.proofs.Parts.{splice_nil}
use Rattle.digits.specs.Number.{next_number}
use Rattle.frame.specs.Shape.{around_text}
use Rattle.records.proofs.Scans.{tail_at, rest_part}
use Rattle.cutting.specs.Frames.{cut_of}
use Rattle.pieces.proofs.Steps.{Turn, turn, ended_tail}
use Rattle.cutting.proofs.Written.{left, left_long, written_on, left_none}
use Rattle.cutting.proofs.writing.write_all.Goals as goal

pub loop-at-init : goal.loop-at-init
unfolding cut_of
loop-at-init c = record { at_within = omega arith; numbered = omega arith; out_length = refl; all_written = refl; counted = omega arith }

pub piece_length-n-requires : goal.piece_length-n-requires
piece_length-n-requires c = (omega arith, ended_tail c.args.text.now c.loop-at.at c.requires.2 (omega arith))

pub write_piece-requires : goal.write_piece-requires
write_piece-requires c =
    let turned : (let a = c.args in Turn a.limit a.text.now c.loop-at.at c.piece_length-n.result) = let a = c.args in
    turn a.limit a.text.now c.loop-at.at c.piece_length-n.result (omega arith) (omega arith) c.piece_length-n.ensures in
    let ahead : (let l = c.loop-at in
    let a = c.args in
    length (left a.limit a.text.now l.at l.number)
    ≡ c.piece_length-n.result + around_text + length (left a.limit a.text.now (l.at + c.piece_length-n.result) (next_number l.number))) = let l = c.loop-at in
    let a = c.args in
    left_long a.limit a.text.now l.at c.piece_length-n.result l.number turned in
    let l = c.loop-at in
    let text = c.args.text.now in
    let long : length (tail_at text l.at) ≡ length text - l.at = rw (rest_part, length-drop) in
    (turned.some, omega (arith, turned.within, long), l.invariant.numbered, omega (arith, ahead, l.invariant.out_length, l.invariant.counted, c.requires.1))

pub loop-at-preserved : goal.loop-at-preserved
loop-at-preserved c =
    let turned : (let a = c.args in Turn a.limit a.text.now c.loop-at.at c.piece_length-n.result) = let a = c.args in
    turn a.limit a.text.now c.loop-at.at c.piece_length-n.result (omega arith) (omega arith) c.piece_length-n.ensures in
    let l = c.loop-at in
    let a = c.args in
    let (at_within, numbered, out_length, all_written, counted) =
    written_on a.limit a.text.now l.at c.piece_length-n.result l.number turned l.out a.out.now l.done l.invariant.out_length c.requires.1
    l.invariant.counted l.invariant.all_written c.write_piece.ensures c.next_number-number.ensures in
    record { at_within = at_within; numbered = numbered; out_length = out_length; all_written = all_written; counted = counted }

pub returns : goal.returns
returns c =
    let l = c.loop-at in
    let a = c.args in
    let past : length a.text.now ≤ l.at = omega arith in
    let z = rw (left_none a.limit a.text.now l.at l.number past) at l.invariant.all_written in
    sym (splice_nil l.out l.done) ∙ z

pub overflow_add-done : goal.overflow_add-done
overflow_add-done c =
    let turned : (let a = c.args in Turn a.limit a.text.now c.loop-at.at c.piece_length-n.result) = let a = c.args in
    turn a.limit a.text.now c.loop-at.at c.piece_length-n.result (omega arith) (omega arith) c.piece_length-n.ensures in
    omega (arith, turned.short)

pub overflow_add-done-in-loop-at : goal.overflow_add-done-in-loop-at
overflow_add-done-in-loop-at c =
    let turned : (let a = c.args in Turn a.limit a.text.now c.loop-at.at c.piece_length-n.result) = let a = c.args in
    turn a.limit a.text.now c.loop-at.at c.piece_length-n.result (omega arith) (omega arith) c.piece_length-n.ensures in
    let ahead : (let l = c.loop-at in
    let a = c.args in
    length (left a.limit a.text.now l.at l.number)
    ≡ c.piece_length-n.result + around_text + length (left a.limit a.text.now (l.at + c.piece_length-n.result) (next_number l.number))) = let l = c.loop-at in
    let a = c.args in
    left_long a.limit a.text.now l.at c.piece_length-n.result l.number turned in
    omega (arith, ahead, c.loop-at.invariant.counted, c.requires.1)

pub overflow_add-at : goal.overflow_add-at
overflow_add-at c =
    let turned : (let a = c.args in Turn a.limit a.text.now c.loop-at.at c.piece_length-n.result) = let a = c.args in
    turn a.limit a.text.now c.loop-at.at c.piece_length-n.result (omega arith) (omega arith) c.piece_length-n.ensures in
    omega (arith, turned.within)

pub loop-at-smaller : goal.loop-at-smaller
loop-at-smaller c =
    let turned : (let a = c.args in Turn a.limit a.text.now c.loop-at.at c.piece_length-n.result) = let a = c.args in
    turn a.limit a.text.now c.loop-at.at c.piece_length-n.result (omega arith) (omega arith) c.piece_length-n.ensures in
    let t = turned in omega (arith, t.within, t.some)

pub shape_of-out : goal.shape_of-out
shape_of-out c = c.loop-at.invariant.out_length

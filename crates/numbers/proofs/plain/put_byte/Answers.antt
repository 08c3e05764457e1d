-- `numbers::plain::put_byte` meets its contract: the byte's place is in its line's part of the frames.
-- Assumes nothing.
use Prim.Native.Nat.{◌<◌}
use native.Mathlib.Omega.{arith}
use Rattle.memory.specs.Sizes.{frame_part}
use Rattle.line.specs.Line.{most_collected}
use Rattle.line.proofs.Limits.{collected_fits}
use Rattle.numbers.specs.Plain.{line_of}
use Rattle.numbers.proofs.plain.put_byte.Goals as goal

pub overflow_cast-place : goal.overflow_cast-place
overflow_cast-place c =
    let in_part : most_collected (line_of c.args.numbers.now c.args.i) < frame_part = collected_fits (line_of c.args.numbers.now c.args.i) in
    omega (arith, c.requires, in_part)

pub overflow_add-place : goal.overflow_add-place
overflow_add-place c =
    let in_part : most_collected (line_of c.args.numbers.now c.args.i) < frame_part = collected_fits (line_of c.args.numbers.now c.args.i) in
    omega (arith, c.requires, in_part)

pub bounds-frames-place : goal.bounds-frames-place
bounds-frames-place c =
    let in_part : most_collected (line_of c.args.numbers.now c.args.i) < frame_part = collected_fits (line_of c.args.numbers.now c.args.i) in
    omega (arith, c.requires, in_part)

pub overflow_add-numbers : goal.overflow_add-numbers
overflow_add-numbers c =
    let in_part : most_collected (line_of c.args.numbers.now c.args.i) < frame_part = collected_fits (line_of c.args.numbers.now c.args.i) in
    omega (arith, c.requires, in_part)

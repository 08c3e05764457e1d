-- `numbers::collect` meets its contract.
-- Assumes nothing.
use mathlib.Core.Path.{◌≡◌, sym, ◌∙◌}
use mathlib.Core.Bool.{true}
use native.Mathlib.Omega.{arith}
use Rattle.numbers.specs.Plain.{quick}
use Rattle.numbers.proofs.Numbers.{numbers_facts, frames_collected}
use Rattle.numbers.proofs.Changes.{left_nowhere, left_size, left_other, collected, quick_frames, quick_within}
use Rattle.numbers.proofs.collect.Goals as goal

pub returns-then-i-ge-LINES : goal.returns-then-i-ge-LINES
returns-then-i-ge-LINES c = let a = c.args in left_nowhere a.numbers.now a.i a.byte a.frames.now (omega arith)

pub returns-then-frames-ne-FRAMES_SIZE : goal.returns-then-frames-ne-FRAMES_SIZE
returns-then-frames-ne-FRAMES_SIZE c = let a = c.args in left_size a.numbers.now a.i a.byte a.frames.now (omega arith) c.if-frames-ne-FRAMES_SIZE.true

pub returns-then-not-is_quick : goal.returns-then-not-is_quick
returns-then-not-is_quick c =
    let a = c.args in
    left_other a.numbers.now a.i a.byte a.frames.now (omega arith) c.if-frames-ne-FRAMES_SIZE.false (sym c.is_quick.ensures ∙ c.if-not-is_quick.true)

pub put_byte-requires : goal.put_byte-requires
put_byte-requires c =
    let is_quick : (let a = c.args in quick a.numbers.now a.i a.byte ≡ true) = sym c.is_quick.ensures ∙ c.if-not-is_quick.false in
    let a = c.args in
    let ns = a.numbers.now in
    let within = numbers_facts ns a.i (quick_within ns a.i a.byte a.frames.now is_quick) in
    (omega arith, frames_collected ns a.i (quick_frames ns a.i a.byte a.frames.now is_quick) within.speech, c.if-frames-ne-FRAMES_SIZE.false)

pub returns : goal.returns
returns c =
    let is_quick : (let a = c.args in quick a.numbers.now a.i a.byte ≡ true) = sym c.is_quick.ensures ∙ c.if-not-is_quick.false in
    let a = c.args in
    collected a.numbers.now a.i a.byte a.frames.now (omega arith) c.if-frames-ne-FRAMES_SIZE.false is_quick c.put_byte.ensures.0 c.put_byte.ensures.1

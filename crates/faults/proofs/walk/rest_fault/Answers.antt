-- `faults::walk::rest_fault` meets its contract: at each record what is left decides, and the first that is wrong ends it.
-- Assumes nothing.
use Prim.Native.Nat.{◌+◌, ◌≤◌}
use native.Mathlib.Omega.{arith}
use lib.ListN.{length}
use Rattle.characters.specs.Control.{cr}
use Rattle.records.proofs.Scans.{tail_at, cut_length, tail_within}
use Rattle.faults.proofs.Walked.{walk_start, walk_on, walk_wrong, walk_end}
use Rattle.faults.proofs.walk.rest_fault.Goals as goal

pub loop-at-init : goal.loop-at-init
loop-at-init c = walk_start c.args.d c.args.counts c.args.text.now c.args.start c.requires.1 c.requires.2

pub overflow_add-last : goal.overflow_add-last
overflow_add-last c =
    let within : c.loop-at.at + c.index_of-e.result ≤ length c.args.text.now = tail_within cr c.args.text.now c.loop-at.at c.index_of-e.result (omega arith) c.index_of-e.ensures in
    omega (arith, within, c.well_formed)

pub slice_bounds-check_record-end : goal.slice_bounds-check_record-end
slice_bounds-check_record-end c = cut_length cr ((tail_at c.args.text.now c.loop-at.at)) _ c.index_of-e.ensures

-- the place is at most the bytes passed, and so fits 16 bits by the limit of a message
pub overflow_add-place : goal.overflow_add-place
overflow_add-place c = omega (arith, c.loop-at.invariant, c.requires)

pub overflow_add-at : goal.overflow_add-at
overflow_add-at c =
    let within : c.loop-at.at + c.index_of-e.result ≤ length c.args.text.now = tail_within cr c.args.text.now c.loop-at.at c.index_of-e.result (omega arith) c.index_of-e.ensures in
    omega (arith, within, c.well_formed)

pub overflow_add-at-in-Ok : goal.overflow_add-at-in-Ok
overflow_add-at-in-Ok c =
    let within : c.loop-at.at + c.index_of-e.result ≤ length c.args.text.now = tail_within cr c.args.text.now c.loop-at.at c.index_of-e.result (omega arith) c.index_of-e.ensures in
    omega (arith, within, c.well_formed)

pub loop-at-smaller : goal.loop-at-smaller
loop-at-smaller c =
    let within : c.loop-at.at + c.index_of-e.result ≤ length c.args.text.now = tail_within cr c.args.text.now c.loop-at.at c.index_of-e.result (omega arith) c.index_of-e.ensures in
    omega (arith, within, c.loop-at-test)

pub loop-at-preserved : goal.loop-at-preserved
loop-at-preserved c =
    let a = c.args in
    walk_on a.d a.counts a.text.now a.start c.loop-at.s c.loop-at.at c.loop-at.place c.loop-at.invariant c.index_of-e.result (omega arith) c.index_of-e.ensures _ c.check_record.ensures c.in-Ok.is

pub returns-in-Err : goal.returns-in-Err
returns-in-Err c =
    let a = c.args in
    walk_wrong a.d a.counts a.text.now a.start c.loop-at.s c.loop-at.at c.loop-at.place c.loop-at.invariant c.index_of-e.result (omega arith) c.index_of-e.ensures _ c.check_record.ensures c.in-Err.is

pub returns : goal.returns
returns c =
    let a = c.args in
    walk_end a.d a.counts a.text.now a.start c.loop-at.s c.loop-at.at c.loop-at.place c.loop-at.invariant (omega arith)

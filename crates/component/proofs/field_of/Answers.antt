-- `component::field_of` meets its contract: the fields that are left to pass, from the place reached, lead to the field asked for.
-- Assumes nothing.
use mathlib.Core.Path.{◌≡◌}
use Prim.Native.Nat.{◌+◌, ◌-◌, ◌≤◌}
use native.Mathlib.Omega.{arith}
use lib.ListN.{length}
use Rattle.records.proofs.Scans.{tail_at, cut_length, tail_within}
use Rattle.component.proofs.Fields.{field_zero, past_end, next_field, this_field}
use Rattle.component.proofs.field_of.Goals as goal

pub returns-then-n-eq0 : goal.returns-then-n-eq0
returns-then-n-eq0 c = let a = c.args in field_zero a.d.field a.n a.rec.now c.if-n-eq0.true

pub loop-init : goal.loop-init
loop-init c = let all : c.args.n + 1 - 1 ≡ c.args.n = omega arith in record { at_within = omega arith; left_within = omega arith; some_left = omega arith; same_field = rw all }

pub returns-then-rec-at : goal.returns-then-rec-at
returns-then-rec-at c =
    let a = c.args in
    past_end a.d.field (c.args.n + 1 - c.loop.counter) a.rec.now c.loop.at _ c.loop.invariant.same_field (omega arith)

pub overflow_add-at : goal.overflow_add-at
overflow_add-at c =
    let within : c.loop.at + c.index_of-e.result ≤ length c.args.rec.now = let a = c.args in
    tail_within a.d.field a.rec.now c.loop.at c.index_of-e.result (omega arith) c.index_of-e.ensures in
    omega (arith, within, c.well_formed)

pub overflow_add-at-in-loop : goal.overflow_add-at-in-loop
overflow_add-at-in-loop c =
    let within : c.loop.at + c.index_of-e.result ≤ length c.args.rec.now = let a = c.args in
    tail_within a.d.field a.rec.now c.loop.at c.index_of-e.result (omega arith) c.index_of-e.ensures in
    omega (arith, within, c.well_formed)

pub loop-preserved : goal.loop-preserved
loop-preserved c =
    let within : c.loop.at + c.index_of-e.result ≤ length c.args.rec.now = let a = c.args in
    tail_within a.d.field a.rec.now c.loop.at c.index_of-e.result (omega arith) c.index_of-e.ensures in
    let l = c.loop in
    let a = c.args in
    let less : a.n + 1 - (l.counter + 1) ≡ a.n + 1 - l.counter - 1 = omega arith in record {
      at_within = omega (arith, within);
      left_within = omega arith;
      some_left = omega arith;
      same_field = rw less (next_field a.d.field (c.args.n + 1 - l.counter) a.rec.now l.at _ l.invariant.same_field c.index_of-e.result (omega arith) c.index_of-e.ensures);
    }

pub returns-then-rec-at-2 : goal.returns-then-rec-at-2
returns-then-rec-at-2 c =
    let a = c.args in
    past_end a.d.field (c.args.n + 1 - c.loop.counter) a.rec.now c.loop.at _ c.loop.invariant.same_field (omega arith)

pub slice_bounds-result-end-2 : goal.slice_bounds-result-end-2
slice_bounds-result-end-2 c =
    let a = c.args in
    cut_length a.d.field (tail_at a.rec.now c.loop.at) _ c.index_of-e-2.ensures

pub returns : goal.returns
returns c =
    let a = c.args in
    this_field a.d.field (c.args.n + 1 - c.loop.counter) a.rec.now c.loop.at _ c.loop.invariant.same_field c.index_of-e-2.result (omega arith) c.index_of-e-2.ensures

-- `owner::rows::fill_rows` meets its contract: the rows stored, with those still to store, are all.
-- Assumes nothing.
use Prim.Native.Nat.{◌+◌, ◌≤◌, ◌<◌}
use native.Mathlib.Omega.{arith}
use lib.ListN.{length, length-set}
use Rattle.characters.specs.Control.{cr}
use Rattle.records.proofs.Scans.{tail_within}
use Rattle.records.proofs.Front.{count_front}
use Rattle.owner.proofs.RowSteps.{types_front, lengths_front, offsets_front}
use Rattle.owner.proofs.rows.fill_rows.Goals as goal

pub loop-at-preserved : goal.loop-at-preserved
loop-at-preserved c =
    let within : c.loop-at.at + c.index_of-e.result ≤ length c.args.text.now = tail_within cr c.args.text.now c.loop-at.at c.index_of-e.result (omega arith) c.index_of-e.ensures in
    let l = c.loop-at in
    let text = c.args.text.now in
    let e = c.index_of-e.result in
    let found = c.index_of-e.ensures in
    let lt : l.at < length text = omega arith in record {
      at_within = omega (arith, within);
      counted = count_front text l.at e l.n _ lt found l.invariant.counted;
      types_length = simp length-set (omega arith);
      offsets_length = simp length-set (omega arith);
      lengths_length = simp length-set (omega arith);
      all_types = types_front text l.at e l.n lt found l.types _ l.invariant.all_types;
      all_offsets = offsets_front text l.at e l.n lt found l.offsets _ l.invariant.all_offsets;
      all_lengths = lengths_front text l.at e l.n lt found l.lengths _ l.invariant.all_lengths;
    }

pub overflow_cast-lengths : goal.overflow_cast-lengths
overflow_cast-lengths c =
    let within : c.loop-at.at + c.index_of-e.result ≤ length c.args.text.now = tail_within cr c.args.text.now c.loop-at.at c.index_of-e.result (omega arith) c.index_of-e.ensures in
    omega (arith, within, c.requires)

pub overflow_add-at : goal.overflow_add-at
overflow_add-at c =
    let within : c.loop-at.at + c.index_of-e.result ≤ length c.args.text.now = tail_within cr c.args.text.now c.loop-at.at c.index_of-e.result (omega arith) c.index_of-e.ensures in
    omega (arith, within, c.requires)

pub overflow_add-at-in-loop-at : goal.overflow_add-at-in-loop-at
overflow_add-at-in-loop-at c =
    let within : c.loop-at.at + c.index_of-e.result ≤ length c.args.text.now = tail_within cr c.args.text.now c.loop-at.at c.index_of-e.result (omega arith) c.index_of-e.ensures in
    omega (arith, within, c.requires)

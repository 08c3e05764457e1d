-- `finding::writing::write` meets its contract: turn by turn a byte of the template is written, or the datum that takes its place.
-- Assumes nothing.
use mathlib.Core.Path.{◌≡◌, ap, ◌∙◌}
use Prim.Native.Nat.{◌+◌, ◌-◌, ◌≤◌, ◌<◌}
use native.Mathlib.Omega.{arith}
use lib.ListN.{length, get_or, take, drop}
use Rattle.memory.specs.Parts.{part}
use Rattle.memory.proofs.Parts.{part_lent}
use Rattle.settings.specs.Settings.{results_length}
use Rattle.finding.specs.Findings.{finding_limit}
use Rattle.finding.specs.Inner.Templates.{mark, template, spots_of, no_spot, spot_count, saying}
use Rattle.finding.specs.declared.Spot.{Spot}
use Rattle.finding.proofs.Fills.{filling_begins, spot_inside, place_left, said_fits, filled_said, own_fits, filled_own, filling_ends}
use Rattle.finding.proofs.writing.write.Goals as goal
use Rattle.finding.proofs.writing.write.Goals.{then-b-eq-MARK, else-b-eq-MARK}

pub loop-b-init : goal.loop-b-init
loop-b-init c = let a = c.args in filling_begins a.patient a.block.now a.out.now

pub spot_of-spot-requires : goal.spot_of-spot-requires
unfolding template
spot_of-spot-requires c =
    let room : finding_limit ≤ length c.args.out.now = c.requires.1 in
    let marked : get_or template c.loop-b.b-index 0 ≡ mark = c.if-b-eq-MARK.true in
    let has_place : c.loop-b.k < spot_count = let a = c.args in
    let l = c.loop-b in
    place_left a.patient a.block.now a.out.now l.out l.end l.k l.b-index l.invariant room (omega arith) marked in
    has_place

pub overflow_add-behind : goal.overflow_add-behind
overflow_add-behind c =
    let lies : c.spot_of-spot.result.at + c.spot_of-spot.result.width ≤ results_length c.args.patient = let k = c.loop-b.k in
    rw c.spot_of-spot.ensures (spot_inside c.args.patient k) in
    omega (arith, lies, c.requires, c.well_formed)

pub overflow_add-k : goal.overflow_add-k
unfolding template
overflow_add-k c =
    let room : finding_limit ≤ length c.args.out.now = c.requires.1 in
    let marked : get_or template c.loop-b.b-index 0 ≡ mark = c.if-b-eq-MARK.true in
    let has_place : c.loop-b.k < spot_count = let a = c.args in
    let l = c.loop-b in
    place_left a.patient a.block.now a.out.now l.out l.end l.k l.b-index l.invariant room (omega arith) marked in
    omega (arith, has_place)

pub slice_bounds-put_datum-end : goal.slice_bounds-put_datum-end
slice_bounds-put_datum-end c =
    let lies : c.spot_of-spot.result.at + c.spot_of-spot.result.width ≤ results_length c.args.patient = let k = c.loop-b.k in
    rw c.spot_of-spot.ensures (spot_inside c.args.patient k) in
    omega (arith, lies, c.requires)

pub put_datum-end-requires : goal.put_datum-end-requires
unfolding template
put_datum-end-requires c =
    let said : saying
    (take (c.spot_of-spot.result.at + c.spot_of-spot.result.width - c.spot_of-spot.result.at)
    (drop c.spot_of-spot.result.at c.args.block.now))
    ≡ saying (part c.args.block.now ((get_or (spots_of c.args.patient) c.loop-b.k no_spot)).at ((get_or (spots_of c.args.patient) c.loop-b.k no_spot)).width) = let bs = c.args.block.now in
    let s = c.spot_of-spot.result in
    ap saying (part_lent bs s.at s.width) ∙ ap (λ (x : Spot). saying (part bs x.at x.width)) c.spot_of-spot.ensures in
    let room : finding_limit ≤ length c.args.out.now = c.requires.1 in
    let marked : get_or template c.loop-b.b-index 0 ≡ mark = c.if-b-eq-MARK.true in
    let a = c.args in
    let l = c.loop-b in
    rw said
    (said_fits a.patient a.block.now a.out.now l.out l.end l.k l.b-index l.invariant room (omega arith) marked)

pub bounds-out-end : goal.bounds-out-end
unfolding template
bounds-out-end c =
    let room : finding_limit ≤ length c.args.out.now = c.requires.1 in
    let owned : get_or template c.loop-b.b-index 0 ≡ mark → ⊥ = c.if-b-eq-MARK.false in
    let own_room : c.loop-b.end < length c.loop-b.out = let a = c.args in
    let l = c.loop-b in
    own_fits a.patient a.block.now a.out.now l.out l.end l.k l.b-index l.invariant room (omega arith) owned in
    own_room

pub overflow_add-end : goal.overflow_add-end
unfolding template
overflow_add-end c =
    let room : finding_limit ≤ length c.args.out.now = c.requires.1 in
    let owned : get_or template c.loop-b.b-index 0 ≡ mark → ⊥ = c.if-b-eq-MARK.false in
    let own_room : c.loop-b.end < length c.loop-b.out = let a = c.args in
    let l = c.loop-b in
    own_fits a.patient a.block.now a.out.now l.out l.end l.k l.b-index l.invariant room (omega arith) owned in
    omega (arith, own_room, c.loop-b.invariant.long, c.well_formed)

pub loop-b-preserved : goal.loop-b-preserved
unfolding template
loop-b-preserved c =
    let a = c.args in
    let l = c.loop-b in
    let room : finding_limit ≤ length c.args.out.now = c.requires.1 in
    elim c.if-b-eq-MARK.branch [
      | then-b-eq-MARK w ↦
          let s = w.spot_of-spot.result in
          let bs = a.block.now in
          let said = ap saying (part_lent bs s.at s.width) ∙ ap (λ (x : Spot). saying (part bs x.at x.width)) w.spot_of-spot.ensures in
          let e = rw said at w.put_datum-end.ensures in
          rw w.k-is
          (filled_said a.patient bs a.out.now l.out l.end l.k l.b-index l.invariant room (omega arith) w.if-b-eq-MARK.true (w.end-is ∙ e.0) (w.out-is ∙ e.1))
      | else-b-eq-MARK w ↦
          rw (w.out-is, w.end-is, w.k-is)
          (filled_own a.patient a.block.now a.out.now l.out l.end l.k l.b-index l.invariant room (omega arith) w.if-b-eq-MARK.false)
    ]

pub shape_of-out : goal.shape_of-out
shape_of-out c = c.loop-b.invariant.long

pub returns : goal.returns
returns c =
    let a = c.args in
    let l = c.loop-b in
    filling_ends a.patient a.block.now a.out.now l.out l.end l.k l.b-index l.invariant (omega arith)

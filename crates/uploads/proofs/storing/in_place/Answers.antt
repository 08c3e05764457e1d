-- `uploads::storing::in_place` meets its contract.
-- Assumes nothing.
use native.Mathlib.Omega.{arith}
use lib.ListN.{length-take}
use Rattle.uploads.proofs.Scratches.{made_there, made_fits, made_text}
use Rattle.uploads.proofs.storing.in_place.Goals as goal

pub unwrap-n-requires : goal.unwrap-n-requires
unwrap-n-requires c = made_there c.args.patient c.args.block.now c.args.place.now c.requires.1 c.requires.0 c.put_finding.ensures

pub slice_bounds-store-end : goal.slice_bounds-store-end
slice_bounds-store-end c = made_fits c.args.patient c.args.block.now c.args.place.now c.requires.1 c.requires.0 c.put_finding.ensures c.unwrap-n.ensures

pub slice_bounds-store-end-2 : goal.slice_bounds-store-end-2
slice_bounds-store-end-2 c = simp length-take (omega (arith, made_fits c.args.patient c.args.block.now c.args.place.now c.requires.1 c.requires.0 c.put_finding.ensures c.unwrap-n.ensures))

pub returns : goal.returns
returns c = rw (c.shares.ensures, made_text c.args.patient c.args.block.now c.args.place.now c.requires.1 c.requires.0 c.put_finding.ensures c.unwrap-n.ensures) at c.store.ensures

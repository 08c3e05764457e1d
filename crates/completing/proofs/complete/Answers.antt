-- `completing::complete` meets its contract: what is decided is the line's text in one piece.
-- Assumes nothing.
use native.Mathlib.Omega.{arith}
use Rattle.line.proofs.Limits.{within_facts}
use Rattle.completing.proofs.Pieces.{pieces_joined}
use Rattle.deciding.proofs.Decisions.{decided_as}
use Rattle.completing.proofs.complete.Goals as goal

pub slice_bounds-decide-end-2 : goal.slice_bounds-decide-end-2
slice_bounds-decide-end-2 c = omega (arith, within_facts c.args.line c.requires.0.within, c.requires)

pub returns : goal.returns
returns c =
    let a = c.args in
    decided_as (pieces_joined a.line a.i a.n a.unfinished.now a.frames.now c.requires.0 c.requires.1) c.decide.ensures

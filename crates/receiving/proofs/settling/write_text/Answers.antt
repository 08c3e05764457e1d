-- `receiving::settling::write_text` meets its contract: the part that was lent is back in its place, with the text over its start.
-- Assumes nothing.
use mathlib.Core.Path.{refl}
use native.Mathlib.Omega.{arith}
use Rattle.line.proofs.Limits.{within_facts}
use Rattle.receiving.proofs.Pieces.{text_written}
use Rattle.receiving.proofs.settling.write_text.Goals as goal

pub slice_bounds-copy-end-2 : goal.slice_bounds-copy-end-2
slice_bounds-copy-end-2 c = omega (arith, within_facts c.args.line c.requires.0.within, c.requires)

pub returns : goal.returns
returns c =
    let a = c.args in
    text_written a.line a.i a.n a.unfinished.now a.frames.now c.requires.0 c.requires.1 _ _ _ _ (omega arith) refl c.copy.ensures

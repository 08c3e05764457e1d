-- `records::last::begins_with_l` meets its contract: the last record begins at one of three places.
-- Assumes nothing.
use native.Mathlib.Omega.{arith}
use Prim.Native.Nat.{◌-◌}
use mathlib.Core.Path.{sym, ◌∙◌}
use lib.ListN.{length, take}
use lib.Seq.{length-take-le}
use Rattle.records.proofs.LastRecord.{start_le}
use Rattle.records.proofs.TwoPieces.{joined_within, joined_across, joined_behind}
use Rattle.records.proofs.last.begins_with_l.Goals as goal

pub slice_bounds-last_start-end : goal.slice_bounds-last_start-end
slice_bounds-last_start-end c = sym (length-take-le _ c.args.new.now (omega arith))

pub bounds-new-start : goal.bounds-new-start
bounds-new-start c =
    let new = c.args.new.now in
    omega (arith, start_le (take (length new - 1) new), length-take-le (length new - 1) new (omega arith), c.last_start-start.ensures)

pub returns-then-start-gt0 : goal.returns-then-start-gt0
returns-then-start-gt0 c = joined_within c.args.old.now c.args.new.now c.requires.0 c.requires.1 c.last_start-start.result c.last_start-start.ensures (omega arith)

pub returns-then-begin-old : goal.returns-then-begin-old
returns-then-begin-old c = joined_across c.args.old.now c.args.new.now c.requires.0 c.requires.1 (sym c.last_start-start.ensures ∙ omega arith) c.last_start-begin.result c.last_start-begin.ensures (omega arith)

pub returns : goal.returns
returns c = joined_behind c.args.old.now c.args.new.now c.requires.0 c.requires.1 (sym c.last_start-start.ensures ∙ omega arith) c.last_start-begin.result c.last_start-begin.ensures (omega arith)

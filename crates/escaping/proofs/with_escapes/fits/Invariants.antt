-- `escaping::with_escapes::fits` meets its contract: what is left to put out fits into the room that is left just if all fits into all.
-- Assumes nothing.
use mathlib.Core.Path.{◌≡◌}
use lib.Dec.{leb}
use lib.ListN.{length, drop}
use Rattle.kinds.specs.declared.Delimiters.{Delimiters}
use Rattle.escaping.specs.Escape.{escaped}
use Rattle.escaping.specs.Inner.Table.{Lettering}
use Rattle.escaping.proofs.with_escapes.fits.Given as goal

abbrev pub invariant-loop-b : goal.invariant-loop-b
invariant-loop-b l = (d : Delimiters) → Lettering d l.letters → leb (length (escaped d (drop l.b-index l.text))) l.left ≡ leb (length (escaped d l.text)) l.initial.left

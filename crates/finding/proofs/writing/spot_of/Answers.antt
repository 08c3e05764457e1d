-- `finding::writing::spot_of` meets its contract: each table is the layout's, which antt computes and compares.
-- Assumes nothing.
use mathlib.Core.Path.{sym, ap}
use lib.ListN.{get_or}
use Rattle.settings.specs.declared.Patient.{Patient}
use Rattle.finding.specs.Inner.Templates.{spots_of, no_spot}
use Rattle.finding.proofs.writing.spot_of.Goals as goal

pub returns-in-Ten : goal.returns-in-Ten
unfolding spots_of
returns-in-Ten c = ap (λ (p : Patient). get_or (spots_of p) c.args.k no_spot) (sym c.in-Ten.is)

pub returns-in-Thirteen : goal.returns-in-Thirteen
unfolding spots_of
returns-in-Thirteen c = ap (λ (p : Patient). get_or (spots_of p) c.args.k no_spot) (sym c.in-Thirteen.is)

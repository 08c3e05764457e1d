-- `records::ending_of` meets its contract: the text's last byte lies in the second piece, in the first, or in none.
-- Assumes nothing.
use native.Mathlib.Omega.{arith}
use mathlib.Core.Path.{sym, ◌∙◌, ap}
use Rattle.records.specs.Records.{ending_of}
use Rattle.records.proofs.TwoPieces.{nothing_joined, empty_ending}
use Rattle.records.proofs.ending_of.Goals as goal

pub returns-then-old-gt0 : goal.returns-then-old-gt0
returns-then-old-gt0 c = c.ending_in-then-old-gt0.ensures ∙ sym (ap ending_of (nothing_joined c.args.old.now c.args.new.now (omega arith)))

pub returns : goal.returns
returns c = sym (empty_ending c.args.old.now c.args.new.now (omega arith) (omega arith))

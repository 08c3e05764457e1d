-- `uploads::acting::add` meets its contract.
-- Assumes nothing.
use mathlib.Core.Path.{ap, ◌∙◌}
use Rattle.line.specs.Line.{begun_line}
use Rattle.uploads.proofs.Puts.{record_put}
use Rattle.uploads.proofs.acting.add.Goals as goal

pub returns : goal.returns
returns c = (record_put c.args.numbers.now c.args.i c.requires.there c.put_record.ensures (c.begun-after.ensures ∙ ap begun_line c.with_collected.ensures), c.put_byte.ensures)

-- `uploads::Lent::on_byte` meets its contract.
-- Assumes nothing.
use Rattle.std.proofs.Common.{rules}
use mathlib.Core.Path.{refl, sym, ◌∙◌}
use Rattle.answers.specs.declared.Answer.TheVariants.{Nothing}
use Rattle.looking.specs.declared.Kind.TheVariants.{Byte}
use Rattle.strips.specs.declared.Sight.TheVariants.{Ignores, Adds, Judges}
use Rattle.uploads.specs.Uploads.{add, ruling}
use Rattle.uploads.proofs.Readings.{reading_room}
use Rattle.uploads.proofs.Acts.{left, acted}
use Rattle.uploads.proofs.Ways.{own_fits}
use Rattle.uploads.proofs.Events.{seen}
use Rattle.uploads.proofs.Lent.on_byte.Goals as goal

pub add-requires : goal.add-requires
add-requires c =
    let a = c.args in
    reading_room a.self.now.numbers.now a.self.now.frames.now a.patient a.line a.i c.requires

pub returns-in-Ignores-clause-ruled : goal.returns-in-Ignores-clause-ruled
returns-in-Ignores-clause-ruled c =
    let a = c.args in
    seen a.self.now.numbers.now a.self.now.counts.now a.self.now.journal.now a.self.now.frames.now a.patient a.line a.i a.byte Ignores (sym c.see-sight.ensures ∙ c.in-Ignores.is)
    (left a.self.now.numbers.now a.self.now.counts.now a.self.now.frames.now a.patient a.line a.i c.requires a.self.now.journal.now (Byte a.byte) Nothing c.nothing.ensures)

pub returns-in-Adds-clause-ruled : goal.returns-in-Adds-clause-ruled
returns-in-Adds-clause-ruled c =
    let a = c.args in
    seen a.self.now.numbers.now a.self.now.counts.now a.self.now.journal.now a.self.now.frames.now a.patient a.line a.i a.byte Adds (sym c.see-sight.ensures ∙ c.in-Adds.is)
    (acted a.self.now.numbers.now a.self.now.counts.now a.self.now.frames.now a.patient a.line a.i c.requires a.self.now.journal.now a.byte (ruling add Nothing)
    (own_fits a.self.now.numbers.now a.self.now.counts.now a.self.now.frames.now a.patient a.line a.i a.byte c.requires) refl refl
    (record { result = c.nothing-in-Adds.ensures; numbers = c.add.ensures.0; counts = refl; frames = c.add.ensures.1 }))

pub returns-in-Judges-clause-ruled : goal.returns-in-Judges-clause-ruled
returns-in-Judges-clause-ruled c =
    let a = c.args in
    search (rules, seen a.self.now.numbers.now a.self.now.counts.now a.self.now.journal.now a.self.now.frames.now a.patient a.line a.i a.byte Judges (sym c.see-sight.ensures ∙ c.in-Judges.is) c.end_block.ensures.ruled)

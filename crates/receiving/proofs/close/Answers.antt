-- `receiving::close` meets its contract: the tests, and the row of the fate behind them.
-- Assumes nothing.
use mathlib.Core.Path.{refl, sym, ◌∙◌}
use Rattle.memory.specs.Sizes.{journal_size}
use Rattle.receiving.proofs.Steps.{tested_ready}
use Rattle.receiving.proofs.Closing.{closed_by}
use Rattle.receiving.proofs.close.Goals as goal

pub close-requires : goal.close-requires
close-requires c =
    let a = c.args in
    tested_ready a.line a.e a.n journal_size a.unfinished.now a.frames.now (sym c.test.ensures ∙ c.in-Ok.is)

pub returns-in-Ok : goal.returns-in-Ok
returns-in-Ok c =
    let a = c.args in
    closed_by a.line a.e a.n a.fate a.unfinished.now a.frames.now _ (sym c.in-Ok.is ∙ c.test.ensures) c.close.ensures

pub returns-in-Err : goal.returns-in-Err
returns-in-Err c =
    let a = c.args in
    closed_by a.line a.e a.n a.fate a.unfinished.now a.frames.now _ (sym c.in-Err.is ∙ c.test.ensures) (record { line = refl; texts = refl; frames = refl })

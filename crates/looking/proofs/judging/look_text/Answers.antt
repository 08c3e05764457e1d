-- `looking::judging::look_text` meets its contract: each ending tells the two tests.
-- Assumes nothing.
use mathlib.Core.Path.{sym, ◌∙◌}
use Rattle.records.proofs.Endings.{without_cr, with_l, with_other}
use Rattle.looking.proofs.judging.look_text.Goals as goal

pub returns-in-WithoutCr : goal.returns-in-WithoutCr
returns-in-WithoutCr c = rw (without_cr _ (sym c.ending_of.ensures ∙ c.in-WithoutCr.is)) c.done.ensures

pub returns-in-WithL : goal.returns-in-WithL
returns-in-WithL c = let (cr, l) = with_l _ (sym c.ending_of.ensures ∙ c.in-WithL.is) in rw (cr, l)

pub returns-in-WithOther : goal.returns-in-WithOther
returns-in-WithOther c = let (cr, l) = with_other _ (sym c.ending_of.ensures ∙ c.in-WithOther.is) in rw (cr, l) c.done-in-WithOther.ensures

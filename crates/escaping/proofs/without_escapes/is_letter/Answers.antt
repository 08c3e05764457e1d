-- `escaping::without_escapes::is_letter` meets its contract: each answer under the tests that led to it.
-- Assumes nothing.
use Rattle.memory.proofs.Branches.{branches}
use Rattle.escaping.proofs.without_escapes.is_letter.Goals as goal

pub returns-then-b-eq-FIELD_LETTER : goal.returns-then-b-eq-FIELD_LETTER
returns-then-b-eq-FIELD_LETTER c = search branches

pub returns-then-b-eq-COMPONENT_LETTER : goal.returns-then-b-eq-COMPONENT_LETTER
returns-then-b-eq-COMPONENT_LETTER c = search branches

pub returns-then-b-eq-REPEAT_LETTER : goal.returns-then-b-eq-REPEAT_LETTER
returns-then-b-eq-REPEAT_LETTER c = search branches

pub returns-then-b-eq-ESCAPE_LETTER : goal.returns-then-b-eq-ESCAPE_LETTER
returns-then-b-eq-ESCAPE_LETTER c = search branches

pub returns : goal.returns
returns c = search branches

-- `owner::has_room` meets its contract: each answer under the tests that led to it.
-- Assumes nothing.
use Rattle.owner.specs.Reading.{room_for}
use Rattle.memory.proofs.Branches.{branches}
use Rattle.owner.proofs.has_room.Goals as goal

pub returns-then-types-n : goal.returns-then-types-n
unfolding room_for
returns-then-types-n c = search branches

pub returns-then-offsets-n : goal.returns-then-offsets-n
unfolding room_for
returns-then-offsets-n c = search branches

pub returns-then-lengths-n : goal.returns-then-lengths-n
unfolding room_for
returns-then-lengths-n c = search branches

pub returns : goal.returns
unfolding room_for
returns c = search branches

-- `characters::printable::is_printable` meets its contract: of the bytes passed, none lies farther past the space than a printable one exactly if all are printable.
-- Assumes nothing.
use Rattle.std.proofs.Common.{◌≡◌, leb, take}
use Rattle.memory.specs.Tests.{all}
use Rattle.characters.specs.Inner.Printable.{printable}
use Rattle.characters.proofs.printable.is_printable.Given as goal

abbrev pub invariant-loop-b : goal.invariant-loop-b
invariant-loop-b l = leb l.most 0x5e ≡ all printable (take l.b-index l.text)

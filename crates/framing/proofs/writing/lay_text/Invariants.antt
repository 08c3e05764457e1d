-- `framing::writing::lay_text` meets its contract. The loop's invariant: the bytes passed are written, and counted.
-- Assumes nothing.
use Rattle.std.proofs.Common.{◌≡◌, ◌+◌, ◌%◌, ◌≤◌, length, take}
use Rattle.memory.specs.Parts.{splice}
use Rattle.digits.specs.Check.{total}
use Rattle.framing.proofs.writing.lay_text.Given as goal

abbrev pub invariant-loop-i : goal.invariant-loop-i
invariant-loop-i l = (l.i ≤ length l.text) × (length l.out ≡ length l.initial.out) × (l.sum ≡ (l.first + total (take l.i l.text)) % 256) × (l.out ≡ splice l.initial.out 2 (take l.i l.text))

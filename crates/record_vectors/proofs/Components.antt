-- A component ends within the text.
-- Assumes nothing.
use Rattle.std.proofs.Common.{ℕ, ◌≤◌, ◌<◌, List, length, drop, arith, length-drop}
use Rattle.memory.proofs.Tests.{find_le}
use Rattle.memory.specs.Tests.{is_one_of}
use Rattle.kinds.specs.declared.Delimiters.{Delimiters}
use Rattle.component.specs.Component.{stops_of, component_end}

pub ends_within : (d : Delimiters) (text : List ℕ) (start : ℕ) → start < length text → component_end d text start ≤ length text
ends_within d text start h = omega (arith, find_le (is_one_of (stops_of d)) (drop start text), length-drop start text)

-- `faults::judging::index_within` meets its contract: a text with no more than k bytes is its own first k bytes.
-- Assumes nothing.
use mathlib.Core.Path.{◌∙◌, sym, ap}
use mathlib.Core.List.{List}
use Prim.Native.Nat.{ℕ}
use native.Mathlib.Omega.{arith}
use lib.Seq.{take_all, length-take-le}
use Rattle.memory.specs.Tests.{is, find}
use Rattle.faults.proofs.judging.index_within.Goals as goal

pub returns-then-text-k : goal.returns-then-text-k
returns-then-text-k c =
    let a = c.args in
    c.index_of.ensures ∙ ap (λ (l : List ℕ). find (is a.b) l) (sym (take_all a.k a.text.now (omega arith)))

pub slice_bounds-index_of-end : goal.slice_bounds-index_of-end
slice_bounds-index_of-end c = let a = c.args in sym (length-take-le a.k a.text.now (omega arith))

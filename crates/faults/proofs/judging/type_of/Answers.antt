-- `faults::judging::type_of` meets its contract: field 1 has one byte exactly if the first delimiter stands at index 1, and two bytes tell that.
-- Assumes nothing.
use mathlib.Core.Path.{◌≡◌, ◌∙◌}
use Prim.Native.Nat.{min}
use native.Mathlib.Omega.{arith}
use borrow.Author.Tests.{ne_eqb}
use Rattle.memory.specs.Tests.{is, find}
use Rattle.memory.proofs.Tests.{find_le}
use Rattle.kinds.specs.Kinds.{type_of}
use Rattle.records.proofs.Scans.{before_length, before_first}
use Rattle.faults.proofs.Head.{find_window}
use Rattle.faults.proofs.judging.type_of.Goals as goal

pub returns-then-e-ne1 : goal.returns-then-e-ne1
unfolding type_of
returns-then-e-ne1 c =
    let windowed : c.index_within-e.result ≡ min 2 (find (is c.args.b) c.args.rec.now) = let a = c.args in c.index_within-e.ensures ∙ find_window (is a.b) 2 a.rec.now in
    let a = c.args in
    rw (before_length a.b a.rec.now, ne_eqb (find (is a.b) a.rec.now) 1 (λ e. c.if-e-ne1.true (omega (arith, windowed, e))))

pub bounds-rec-0 : goal.bounds-rec-0
bounds-rec-0 c =
    let windowed : c.index_within-e.result ≡ min 2 (find (is c.args.b) c.args.rec.now) = let a = c.args in c.index_within-e.ensures ∙ find_window (is a.b) 2 a.rec.now in
    let a = c.args in
    omega (arith, find_le (is a.b) a.rec.now, windowed, c.if-e-ne1.false)

pub returns : goal.returns
unfolding type_of
returns c =
    let windowed : c.index_within-e.result ≡ min 2 (find (is c.args.b) c.args.rec.now) = let a = c.args in c.index_within-e.ensures ∙ find_window (is a.b) 2 a.rec.now in
    let a = c.args in
    let one : find (is a.b) a.rec.now ≡ 1 = omega (arith, windowed, c.if-e-ne1.false) in
    rw (before_length a.b a.rec.now, before_first a.b a.rec.now one, one) c.kind_of.ensures

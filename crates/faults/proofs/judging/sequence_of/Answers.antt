-- `faults::judging::sequence_of` meets its contract: what stands behind two bytes up to the next delimiter, of which seven bytes tell.
-- Assumes nothing.
use mathlib.Core.Path.{refl, sym, ap, ◌∙◌}
use mathlib.Core.List.{List, []}
use Prim.Native.Nat.{ℕ, ◌≤◌}
use native.Mathlib.Omega.{arith}
use lib.ListN.{length, drop_of_length-le}
use lib.Seq.{length-take-le}
use Rattle.memory.specs.Tests.{is}
use Rattle.memory.proofs.Tests.{find_le}
use Rattle.records.specs.Fields.{before}
use Rattle.sequence.specs.Numbers.{number_of}
use Rattle.sequence.proofs.Decimal.{number_none}
use Rattle.records.proofs.Scans.{tail_at, rest_part}
use Rattle.faults.proofs.Head.{find_window, head_number_law}
use Rattle.faults.proofs.judging.sequence_of.Goals as goal

pub returns-then-rec-le2 : goal.returns-then-rec-le2
returns-then-rec-le2 c =
    let r = c.args.rec.now in
    let le : length r ≤ 2 = omega arith in
    rw (drop_of_length-le r le) (number_none [] refl)

pub slice_bounds-number-end : goal.slice_bounds-number-end
slice_bounds-number-end c =
    let a = c.args in
    let s = tail_at a.rec.now 2 in
    let le : c.index_within-e.result ≤ length s = omega (arith, c.index_within-e.ensures, find_window (is a.b) 7 s, find_le (is a.b) s) in
    sym (length-take-le c.index_within-e.result s le)

pub returns : goal.returns
returns c =
    let a = c.args in
    c.number.ensures ∙ head_number_law a.b (tail_at a.rec.now 2) c.index_within-e.result c.index_within-e.ensures
    ∙ ap (λ (l : List ℕ). number_of (before a.b l)) (rest_part a.rec.now 2)

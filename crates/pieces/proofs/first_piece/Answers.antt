-- `pieces::first_piece` meets its contract: among the bytes that a frame holds, the first CR decides.
-- Assumes nothing.
use mathlib.Core.Path.{◌≡◌, sym, ap, ◌∙◌}
use Prim.Native.Nat.{ℕ, ◌+◌, ◌≤◌}
use native.Mathlib.Omega.{arith}
use lib.ListN.{length, take}
use lib.Seq.{length-take-le}
use Rattle.memory.specs.Tests.{is, find}
use Rattle.memory.proofs.Tests.{find_le}
use Rattle.characters.specs.Control.{cr}
use Rattle.pieces.specs.Pieces.{piece_size, through_cr}
use Rattle.pieces.proofs.Steps.{through_none, through_found, take_most}
use Rattle.pieces.proofs.first_piece.Goals as goal

pub slice_bounds-index_of-end : goal.slice_bounds-index_of-end
slice_bounds-index_of-end c =
    let long : length (take c.most_within-most.result c.args.text.now) ≡ c.most_within-most.result = length-take-le c.most_within-most.result c.args.text.now (omega arith) in
    sym long

pub returns-then-n-most : goal.returns-then-n-most
returns-then-n-most c =
    let long : length (take c.most_within-most.result c.args.text.now) ≡ c.most_within-most.result = length-take-le c.most_within-most.result c.args.text.now (omega arith) in
    let lent : (let a = c.args in take c.most_within-most.result a.text.now ≡ take (piece_size a.limit) a.text.now) = let a = c.args in
    ap (λ (n : ℕ). take n a.text.now) c.most_within-most.ensures ∙ take_most (piece_size a.limit) a.text.now in
    let s = take c.most_within-most.result c.args.text.now in
    let none : find (is cr) s ≡ length s = sym c.index_of-n.ensures ∙ c.if-n-most.true ∙ sym long in
    c.index_of-n.ensures ∙ sym (through_none s none) ∙ ap through_cr lent

pub returns : goal.returns
returns c =
    let long : length (take c.most_within-most.result c.args.text.now) ≡ c.most_within-most.result = length-take-le c.most_within-most.result c.args.text.now (omega arith) in
    let lent : (let a = c.args in take c.most_within-most.result a.text.now ≡ take (piece_size a.limit) a.text.now) = let a = c.args in
    ap (λ (n : ℕ). take n a.text.now) c.most_within-most.ensures ∙ take_most (piece_size a.limit) a.text.now in
    let s = take c.most_within-most.result c.args.text.now in
    let found : c.index_of-n.result ≡ find (is cr) s = c.index_of-n.ensures in
    let end = through_found s (λ e. c.if-n-most.false (found ∙ e ∙ long)) in
    let through : c.index_of-n.result + 1 ≡ through_cr s = omega (arith, found, end) in
    through ∙ ap through_cr lent

pub overflow_add-result : goal.overflow_add-result
overflow_add-result c =
    let long : length (take c.most_within-most.result c.args.text.now) ≡ c.most_within-most.result = length-take-le c.most_within-most.result c.args.text.now (omega arith) in
    let within : c.index_of-n.result ≤ c.most_within-most.result = let s = take c.most_within-most.result c.args.text.now in
    let k : c.index_of-n.result ≤ length s = rw c.index_of-n.ensures (find_le (is cr) s) in
    omega (arith, k, long) in
    omega (arith, within, c.if-n-most.false)

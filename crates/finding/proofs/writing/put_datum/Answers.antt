-- `finding::writing::put_datum` meets its contract: the part that was lent to `escape` is back in its place.
-- Assumes nothing.
use mathlib.Core.Path.{◌≡◌, ap}
use mathlib.Core.List.{List, ◌++◌}
use Prim.Native.Nat.{ℕ, ◌+◌, ◌-◌}
use native.Mathlib.Omega.{arith}
use lib.ListN.{length, take, drop}
use Rattle.memory.specs.Parts.{splice}
use Rattle.finding.specs.Inner.Templates.{saying}
use Rattle.finding.proofs.Puts.{datum_put}
use Rattle.finding.proofs.writing.put_datum.Goals as goal

pub overflow_add-result : goal.overflow_add-result
overflow_add-result c =
    let put_back : List ℕ = let a = c.args in
    take a.at a.out.now ++ (c.escape.new.out ++ drop (length a.out.now - a.at) (drop a.at a.out.now)) in
    let put : (c.unwrap_or-n.result ≡ length (saying c.args.datum.now)) × (put_back ≡ splice c.args.out.now c.args.at (saying c.args.datum.now)) = let a = c.args in
    datum_put a.datum.now a.out.now _ _ a.at c.unwrap_or-n.result c.requires c.trimmed-plain.ensures c.escape.ensures c.unwrap_or-n.ensures in
    omega (arith, put.0, c.requires, c.well_formed)

pub returns : goal.returns
returns c =
    let put_back : List ℕ = let a = c.args in
    take a.at a.out.now ++ (c.escape.new.out ++ drop (length a.out.now - a.at) (drop a.at a.out.now)) in
    let put : (c.unwrap_or-n.result ≡ length (saying c.args.datum.now)) × (put_back ≡ splice c.args.out.now c.args.at (saying c.args.datum.now)) = let a = c.args in
    datum_put a.datum.now a.out.now _ _ a.at c.unwrap_or-n.result c.requires c.trimmed-plain.ensures c.escape.ensures c.unwrap_or-n.ensures in
    (ap (λ (n : ℕ). c.args.at + n) put.0, put.1)

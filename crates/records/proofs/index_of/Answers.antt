-- `records::index_of` meets its contract: the place where std finds b, or the length.
-- Assumes nothing.
use mathlib.Core.Path.{ap, ◌∙◌}
use borrow.Author.Rules.{rules}
use borrow.Author.Tests.{tests}
use lib.ListN.{length}
use Prim.Native.Nat.{ℕ}
use Rattle.std.proofs.Common.{Option}
use Rattle.std.specs.Option.{unwrap_or}
use Rattle.std.proofs.lemmas.Iterator.{YieldsList-from_slice}
use Rattle.std.proofs.lemmas.Iterator.Search.{position_from_yields_List}
use Rattle.memory.specs.Tests.{is}
use Rattle.records.proofs.Finds.{position_find}
use Rattle.records.proofs.index_of.Goals as goal

pub returns : goal.returns
returns c =
    let s = c.args.text.now in
    let found = position_from_yields_List (is c.args.b) _ _ c.position.result c.position.ensures.ran (YieldsList-from_slice s cc) (λ x b q k. search (rules, tests)) in
    c.unwrap_or.ensures ∙ ap (λ (o : Option ℕ). unwrap_or o (length s)) found ∙ position_find (is c.args.b) s

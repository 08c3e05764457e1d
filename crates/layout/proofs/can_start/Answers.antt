-- `layout::can_start` meets its contract: every one of the lines is looked at.
-- Assumes nothing.
use mathlib.Core.Path.{◌≡◌, ap, ◌∙◌}
use mathlib.Core.Bool.{Bool, ◌&&◌}
use mathlib.Core.List.{List, ◌∷◌}
use Prim.Native.Nat.{ℕ, zero, suc, ◌+◌, ◌≤◌, ◌<◌}
use native.Mathlib.Omega.{arith}
use lib.ListN.{length, get_or, drop, drop_of_length-le}
use lib.Seq.{drop-cons}
use borrow.Author.Rules.{rules}
use borrow.Author.Tests.{tests}
use Rattle.std.specs.List.{list_all}
use Rattle.std.proofs.lemmas.Iterator.{YieldsList-from_slice}
use Rattle.std.proofs.lemmas.Iterator.Search.{all_from_yields_List}
use Rattle.layout.specs.Layout.{is_spoken, spoken_from}
use Rattle.layout.proofs.can_start.Goals as goal

-- the lines from i on, up to the list's end
from : (ts : List ℕ) (i n : ℕ) → i + n ≡ length ts → list_all is_spoken (drop i ts) ≡ spoken_from ts i n
from ts i zero h = let le : length ts ≤ i = omega arith in rw (drop_of_length-le ts le)
from ts i (suc n) h =
    let lt : i < length ts = omega arith in
    let next : suc i ≡ i + 1 = omega arith in
    let split : drop i ts ≡ get_or ts i 0 ∷ drop (i + 1) ts = drop-cons ts i 0 lt ∙ ap (λ (k : ℕ). get_or ts i 0 ∷ drop k ts) next in
    ap (list_all is_spoken) split ∙ ap (λ (b : Bool). is_spoken (get_or ts i 0) && b) (from ts (i + 1) n (omega arith))

pub returns : goal.returns
returns c =
    let ts = c.args.speaks.now in
    all_from_yields_List is_spoken _ _ c.all.result c.all.ensures.ran (YieldsList-from_slice ts cc) (λ x b q k. search (rules, tests))
    ∙ from ts 0 8 (search rules)

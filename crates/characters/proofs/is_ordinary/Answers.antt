-- `characters::is_ordinary` meets its contract.
-- Assumes nothing.
use Rattle.std.proofs.Common.{ℕ, eqb, List, get_or, refl, ap, ◌∙◌, rules}
use Rattle.characters.specs.Allowed.{plus}
use Rattle.characters.proofs.Marks.{ordinary_told}
use Rattle.characters.proofs.is_ordinary.Goals as goal

pub returns : goal.returns
returns c =
    let b = c.args.b in
    (refl, λ e. ap (λ (l : List ℕ). eqb (get_or l b 0) plus) e ∙ ordinary_told b (search rules))

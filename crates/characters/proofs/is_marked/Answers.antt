-- `characters::is_marked` meets its contract.
-- Assumes nothing.
use Rattle.std.proofs.Common.{ℕ, not, eqb, List, get_or, refl, ap, ◌∙◌, rules}
use Rattle.characters.specs.Allowed.{dash}
use Rattle.characters.proofs.Marks.{class_told}
use Rattle.characters.proofs.is_marked.Goals as goal

pub returns : goal.returns
returns c =
    let b = c.args.b in
    (refl, λ e. ap (λ (l : List ℕ). not (eqb (get_or l b 0) dash)) e ∙ class_told b (search rules))

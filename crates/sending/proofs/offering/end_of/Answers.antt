-- `sending::offering::end_of` meets its contract.
-- Assumes nothing.
use mathlib.Core.Path.{◌≡◌, ap, ◌∙◌}
use Prim.Native.Nat.{ℕ, ◌-◌}
use native.Mathlib.Omega.{arith}
use lib.ListN.{get_or}
use Rattle.pieces.specs.Pieces.{end_after}
use Rattle.sending.proofs.offering.end_of.Goals as goal

pub returns-then-n-eq0 : goal.returns-then-n-eq0
returns-then-n-eq0 c =
    let a = c.args in
    let first : 0 ≡ a.n - 1 = omega arith in
    c.end_after.ensures ∙ ap end_after (c.byte_at.ensures ∙ ap (λ (i : ℕ). get_or a.text.now i 0) first)

pub returns : goal.returns
returns c = c.end_after-2.ensures ∙ ap end_after c.byte_at-2.ensures

-- `escaping::without_escapes::meant` meets its contract: each answer under the tests that led to it; the letter left is E.
-- Assumes nothing.
use Rattle.std.specs.Prelude.{Some}
use mathlib.Core.Path.{◌≡◌, refl, sym, ◌∙◌}
use mathlib.Core.Bool.{true}
use Prim.Native.Nat.{ℕ}
use native.Mathlib.Decide.{ℕ_discrete}
use borrow.Author.Tests.{eq-eqb, ne_eqb}
use Rattle.kinds.specs.declared.Delimiters.{Delimiters}
use Rattle.memory.specs.Tests.{is_one_of}
use Rattle.escaping.specs.Letters.{meant}
use Rattle.escaping.specs.Inner.Passes.{letters}
use Rattle.memory.proofs.Tests.{never_both}
use Rattle.memory.proofs.Branches.{branches}
use Rattle.escaping.proofs.without_escapes.meant.Goals as goal

last_letter : (d : Delimiters) (x : ℕ) → is_one_of letters x ≡ true → (x ≡ 0x46 → ⊥) → (x ≡ 0x53 → ⊥) → (x ≡ 0x52 → ⊥) → meant d x ≡ Some d.escape
unfolding meant
last_letter d x t f s r =
    let n₁ = ne_eqb x 0x46 f in
    let n₂ = ne_eqb x 0x53 s in
    let n₃ = ne_eqb x 0x52 r in
    elim (ℕ_discrete x 0x45) [
      | yes p ↦ rw (n₁, n₂, n₃, eq-eqb x 0x45 p)
      | no p ↦ never_both true refl (sym t ∙ rw (n₁, n₂, n₃, ne_eqb x 0x45 p))
    ]

pub returns-then-letter-eq-FIELD_LETTER : goal.returns-then-letter-eq-FIELD_LETTER
unfolding meant
returns-then-letter-eq-FIELD_LETTER c = search branches

pub returns-then-letter-eq-COMPONENT_LETTER : goal.returns-then-letter-eq-COMPONENT_LETTER
unfolding meant
returns-then-letter-eq-COMPONENT_LETTER c = search branches

pub returns-then-letter-eq-REPEAT_LETTER : goal.returns-then-letter-eq-REPEAT_LETTER
unfolding meant
returns-then-letter-eq-REPEAT_LETTER c = search branches

pub returns : goal.returns
returns c = last_letter c.args.d c.args.letter c.requires c.if-letter-eq-FIELD_LETTER.false c.if-letter-eq-COMPONENT_LETTER.false c.if-letter-eq-REPEAT_LETTER.false

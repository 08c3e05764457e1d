-- `layout::start` meets its contract.
-- Assumes nothing.
use mathlib.Core.Path.{◌≡◌, refl, sym, ap, ◌∙◌}
use mathlib.Core.List.{List}
use Prim.Native.Nat.{ℕ}
use Rattle.layout.specs.Layout.{started_numbers, fresh_numbers}
use Rattle.layout.specs.Inner.Speaks.{all_put}
use Rattle.layout.proofs.start.Goals as goal

-- eight lines fresh, and set to speak
pub set_to_speak : (ts : List ℕ) → all_put ts fresh_numbers ≡ started_numbers ts
set_to_speak ts = refl

pub returns-then-not-can_start : goal.returns-then-not-can_start
returns-then-not-can_start c =
    let refused = sym c.can_start.ensures ∙ c.if-not-can_start.true in
    record { answer = rw refused; numbers = rw refused; counts = rw refused }

pub returns : goal.returns
returns c =
    let begins = sym c.can_start.ensures ∙ c.if-not-can_start.false in
    let speaks = c.args.speaks.now in
    record {
      answer = rw begins;
      numbers = rw begins (c.put_speaks.ensures ∙ ap (all_put speaks) c.fresh.ensures.numbers ∙ set_to_speak speaks);
      counts = rw begins c.fresh.ensures.counts;
    }

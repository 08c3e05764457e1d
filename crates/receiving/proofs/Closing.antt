-- What closing says, by its tests.
-- Assumes nothing.
use Rattle.std.specs.Prelude.{Result}
use Rattle.answers.specs.declared.Answer.{Answer}
use mathlib.Core.Path.{◌≡◌, ap, ◌∙◌}
use mathlib.Core.List.{List}
use Prim.Native.Nat.{ℕ}
use lib.ListN.{length}
use Rattle.memory.specs.Sizes.{journal_size}
use Rattle.deciding.specs.declared.Fate.{Fate}
use Rattle.line.specs.declared.Line.{Line}
use Rattle.looking.specs.declared.Act.{Act}
use Rattle.looking.specs.declared.Event.{Event}
use Rattle.receiving.specs.Settled.{line_after, frames_after, texts_after}
use Rattle.receiving.specs.Closing.{test_of, closing_act, Closing}
use Rattle.receiving.specs.Inner.Settled.{Settled}

pub closed_by : (l : Line) (e : Event) (n : ℕ) (fate : Fate) (u f : List ℕ) (t : Result (Unit {0}) Answer) {r : Line} {u' f' : List ℕ} → t ≡ test_of l e.line n journal_size (length u) (length f)
    → Settled (closing_act t fate n) e.kind l e.line u f r u' f' → Closing l e n fate (record { unfinished = u; frames = f }) r (record { unfinished = u'; frames = f' })
closed_by l e n fate u f t h s =
    let is = ap (λ (x : Result (Unit {0}) Answer). closing_act x fate n) h in
    record {
      line = s.line ∙ ap (λ (x : Act). line_after x l) is;
      unfinished = s.texts ∙ ap (λ (x : Act). texts_after x l e.line u f) is;
      frames = s.frames ∙ ap (λ (x : Act). frames_after x e.kind l e.line f) is;
    }

-- What a verdict was found on: a refusal of 40 to 42, or a line within its limits, memory of the right sizes, and a verdict that fits it.
-- Assumes nothing.
use mathlib.Core.Path.{◌≡◌, refl}
use mathlib.Core.Bool.{Bool, true, false}
use mathlib.Core.List.{List}
use Prim.Native.Nat.{ℕ, ◌<◌}
use borrow.Author.Tests.{ltb-true}
use lib.ListN.{length}
use lib.Dec.{ltb}
use Rattle.memory.specs.Sizes.{lines, journal_size}
use Rattle.memory.specs.Tests.{unless}
use Rattle.journal.specs.declared.Ledger.{Ledger}
use Rattle.line.specs.Line.{within_limits}
use Rattle.line.specs.declared.Line.{Line}
use Rattle.answers.specs.Paper.{is_faulty, number_of}
use Rattle.answers.specs.declared.Answer.{Answer}
use Rattle.answers.specs.declared.Answer.TheVariants.{NoLine, WrongSize, BeyondLimits}
use Rattle.looking.specs.Views.{frames_of, texts_of, joined_text}
use Rattle.looking.specs.Inner.Ready.{Ready}
use Rattle.looking.specs.Looks.{look_of}
use Rattle.deciding.specs.Decisions.{outcome_of}
use Rattle.receiving.specs.Verdicts.{decided, own_work, work_of, verdict_of}
use Rattle.looking.specs.Lent.{right_sizes}
use Rattle.looking.specs.Inner.Fitting.{Fitting}
use Rattle.looking.specs.declared.Event.{Event}
use Rattle.looking.specs.declared.Look.{Look}
use Rattle.looking.specs.declared.Look.TheVariants.{Done, Decides}
use Rattle.looking.specs.declared.Verdict.{Verdict}
use Rattle.looking.specs.Verdicts.{Left}
use Rattle.gateway_laws.specs.Classes.{class_of, quiet}
use Rattle.looking.proofs.Views.{own_parts}
use Rattle.looking.proofs.Fits.{LookFits, look_fits}
use Rattle.receiving.proofs.Fits.{decision_fits}
use Rattle.looking.proofs.Alone.{lengths_facts}

module _ (shares : List ℕ) (l : Line) (d : Ledger) (e : Event) (j u f : List ℕ) where
  -- past 40 to 42
  pub record Worked (v : Verdict) : Type 0 where
    pub ready : Ready l e.line u f
    pub size : length j ≡ journal_size
    pub fits : Fitting v.act l
    pub work : v ≡ work_of shares l d e j u f

  pub data Found : Verdict → Type 0 where
    refused : (a : Answer) → class_of a ≡ quiet → is_faulty (number_of a) ≡ false → Found (Left a)
    worked : {v : Verdict} → Worked v → Found v

  pub work_fits : Ready l e.line u f → Fitting (work_of shares l d e j u f).act l
  unfolding own_work
  work_fits r = by_look (look_of l e.kind (texts_of e.line u) (frames_of e.line f)) (look_fits l _ _ (own_parts l e.line u f r) e.kind)
    where
      by_look : (k : Look) → LookFits k l → Fitting (decided k shares l d e.line j (texts_of e.line u) (frames_of e.line f)).act l
      by_look (Done v) h = h.0
      by_look (Decides n) h = decision_fits l (outcome_of shares d e.line (joined_text l n (texts_of e.line u) (frames_of e.line f)) j).fate n h

  pub verdict_found : Found (verdict_of shares l d e j u f)
  unfolding verdict_of
  verdict_found = by_line_law (ltb e.line lines) refl
    where
      by_limits : (b : Bool) → e.line < lines → right_sizes j u f ≡ true → within_limits l ≡ b → Found (unless b (Left BeyondLimits) (work_of shares l d e j u f))
      by_limits true h s w =
          let (size, texts, bytes) = lengths_facts (length j) (length u) (length f) s in
          let r : Ready l e.line u f = record { line = h; within = w; texts = texts; bytes = bytes } in
          worked (record { ready = r; size = size; fits = work_fits r; work = refl })
      by_limits false h s w = refused BeyondLimits refl refl

      by_sizes : (b : Bool) → e.line < lines → right_sizes j u f ≡ b → Found (unless b (Left WrongSize) (unless (within_limits l) (Left BeyondLimits) (work_of shares l d e j u f)))
      by_sizes true h s = by_limits (within_limits l) h s refl
      by_sizes false h s = refused WrongSize refl refl

      by_line_law : (b : Bool) → ltb e.line lines ≡ b
          → Found (unless b (Left NoLine) (unless (right_sizes j u f) (Left WrongSize) (unless (within_limits l) (Left BeyondLimits) (work_of shares l d e j u f))))
      by_line_law true h = by_sizes (right_sizes j u f) (ltb-true e.line lines h) refl
      by_line_law false h = refused NoLine refl refl

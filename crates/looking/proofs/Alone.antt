-- The look at an event, with the tests before it: 40, 41 and 42, and what holds of every look past them.
-- Assumes nothing.
use mathlib.Core.Path.{◌≡◌, refl}
use mathlib.Core.Bool.{Bool, true, false, ◌&&◌}
use mathlib.Core.List.{List}
use Prim.Native.Nat.{ℕ, ◌≤◌, ◌<◌}
use borrow.Author.Tests.{lt-ltb, le-ltb, ltb-true, eqb-true}
use native.Mathlib.Omega.{arith}
use lib.ListN.{length}
use lib.Dec.{ltb, eqb}
use Rattle.memory.specs.Sizes.{lines, journal_size, unfinished_size, frames_size}
use Rattle.memory.specs.Tests.{unless}
use Rattle.memory.proofs.Tests.{and_left, and_right}
use Rattle.line.specs.Line.{within_limits}
use Rattle.line.specs.declared.Line.{Line}
use Rattle.answers.specs.declared.Answer.{Answer}
use Rattle.answers.specs.declared.Answer.TheVariants.{NoLine, WrongSize, BeyondLimits}
use Rattle.looking.specs.Views.{frames_of, texts_of}
use Rattle.looking.specs.Inner.Ready.{Ready}
use Rattle.looking.specs.Lent.{right_lengths}
use Rattle.looking.specs.Looks.{look_of, look_alone}
use Rattle.looking.specs.Inner.Fitting.{Fitting, TextFits, writes, Quiet}
use Rattle.looking.specs.declared.Event.{Event}
use Rattle.looking.specs.declared.Look.{Look}
use Rattle.looking.specs.declared.Look.TheVariants.{Done, Decides}
use Rattle.looking.specs.Verdicts.{Left}
use Rattle.looking.proofs.Views.{own_parts}
use Rattle.looking.proofs.Fits.{LookFits, look_fits}

-- the sizes, as facts
pub lengths_facts : (j u f : ℕ) → right_lengths j u f ≡ true → (j ≡ journal_size) × (u ≡ unfinished_size) × (f ≡ frames_size)
lengths_facts j u f h =
    let rest = and_right (eqb j journal_size) (eqb u unfinished_size && eqb f frames_size) h in (
      eqb-true j journal_size (and_left (eqb j journal_size) (eqb u unfinished_size && eqb f frames_size) h),
      eqb-true u unfinished_size (and_left (eqb u unfinished_size) (eqb f frames_size) rest),
      eqb-true f frames_size (and_right (eqb u unfinished_size) (eqb f frames_size) rest),
    )

-- what acting on a look may rely on: what it writes, the line is ready for
abbrev pub Acts : Look → Line → ℕ → List ℕ → List ℕ → Type 0
Acts (Done v) l i u f = Fitting v.act l × Quiet v.act × (writes v.act ≡ true → Ready l i u f)
Acts (Decides n) l i u f = TextFits l n × Ready l i u f

module _ (l : Line) (e : Event) (n : ℕ) (u f : List ℕ) where
  -- 40, 41 and 42
  pub look_no_line : lines ≤ e.line → look_alone l e n u f ≡ Done (Left NoLine)
  unfolding look_alone
  look_no_line h = rw (le-ltb e.line lines h)

  pub look_size : e.line < lines → right_lengths n (length u) (length f) ≡ false → look_alone l e n u f ≡ Done (Left WrongSize)
  unfolding look_alone
  look_size h k = rw (lt-ltb e.line lines h, k)

  pub look_beyond : e.line < lines → right_lengths n (length u) (length f) ≡ true → within_limits l ≡ false → look_alone l e n u f ≡ Done (Left BeyondLimits)
  unfolding look_alone
  look_beyond h k w = rw (lt-ltb e.line lines h, k, w)

  abbrev own_look : Look
  own_look = look_of l e.kind (texts_of e.line u) (frames_of e.line f)

  pub look_work : e.line < lines → right_lengths n (length u) (length f) ≡ true → within_limits l ≡ true → look_alone l e n u f ≡ own_look
  unfolding look_alone
  look_work h k w = rw (lt-ltb e.line lines h, k, w)

  -- past them the line is ready
  pub ready : e.line < lines → right_lengths n (length u) (length f) ≡ true → within_limits l ≡ true → Ready l e.line u f
  ready h k w =
      let (size, texts, bytes) = lengths_facts n (length u) (length f) k in
      record { line = h; within = w; texts = texts; bytes = bytes }

  refused : (a : Answer) → Acts (Done (Left a)) l e.line u f
  refused a = (tt, tt, λ h. let z : ◌≡◌ {A = ℕ} 0 1 = cc in absurd (omega arith))

  looked : (k : Look) → LookFits k l → Ready l e.line u f → Acts k l e.line u f
  looked (Done v) t r = (t.0, t.1, λ _. r)
  looked (Decides m) t r = (t, r)

  pub alone_acts : Acts (look_alone l e n u f) l e.line u f
  unfolding look_alone
  alone_acts = by_line_law (ltb e.line lines) refl
    where
      by_limits : (b : Bool) → e.line < lines → right_lengths n (length u) (length f) ≡ true → within_limits l ≡ b → Acts (unless b (Done (Left BeyondLimits)) own_look) l e.line u f
      by_limits true h k w = let r = ready h k w in looked own_look (look_fits l (texts_of e.line u) (frames_of e.line f) (own_parts l e.line u f r) e.kind) r
      by_limits false h k w = refused BeyondLimits

      by_sizes : (b : Bool) → e.line < lines → right_lengths n (length u) (length f) ≡ b
          → Acts (unless b (Done (Left WrongSize)) (unless (within_limits l) (Done (Left BeyondLimits)) own_look)) l e.line u f
      by_sizes true h k = by_limits (within_limits l) h k refl
      by_sizes false h k = refused WrongSize

      by_line_law : (b : Bool) → ltb e.line lines ≡ b
          → Acts (unless b (Done (Left NoLine)) (unless (right_lengths n (length u) (length f)) (Done (Left WrongSize)) (unless (within_limits l) (Done (Left BeyondLimits)) own_look))) l e.line u f
      by_line_law true h = by_sizes (right_lengths n (length u) (length f)) (ltb-true e.line lines h) refl
      by_line_law false h = refused NoLine

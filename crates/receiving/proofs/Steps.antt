-- What each way out of an event on its line alone says, and of the tests before a text is decided.
-- Assumes nothing.
use Rattle.std.specs.Prelude.{Err, Ok}
use mathlib.Core.Path.{◌≡◌, refl, sym, ap, subst, ◌∙◌}
use mathlib.Core.Bool.{Bool, true, false, ◌&&◌}
use mathlib.Core.List.{List}
use Prim.Native.Nat.{ℕ, ◌+◌, ◌<◌}
use native.Mathlib.Omega.{arith}
use borrow.Author.Tests.{le-leb, leb-true, ltb-true, lt-ltb, eq-eqb}
use lib.ListN.{length}
use lib.Dec.{ltb, leb}
use Rattle.memory.specs.Sizes.{lines, message_limit, journal_size, unfinished_size, frames_size}
use Rattle.memory.specs.Tests.{unless}
use Rattle.memory.proofs.Tests.{and_left, and_right}
use Rattle.room.specs.Room.{todays_shares}
use Rattle.journal.specs.declared.Ledger.{Ledger}
use Rattle.line.specs.Line.{within_limits}
use Rattle.line.specs.declared.Line.{Line}
use Rattle.answers.specs.declared.Answer.{Answer}
use Rattle.answers.specs.declared.Answer.TheVariants.{NoLine, WrongSize, BeyondLimits}
use Rattle.looking.specs.Views.{frames_of, texts_of, joined_text}
use Rattle.looking.specs.Inner.Ready.{Ready}
use Rattle.looking.specs.Lent.{right_lengths, right_sizes}
use Rattle.looking.specs.Looks.{look_of, look_alone}
use Rattle.looking.specs.Fitting.{text_fits}
use Rattle.looking.specs.Inner.Fitting.{TextFits}
use Rattle.receiving.specs.Verdicts.{decided, own_work, verdict_of}
use Rattle.receiving.specs.Settled.{line_after, texts_after, frames_after}
use Rattle.receiving.specs.Inner.Settled.{Settled}
use Rattle.receiving.specs.Steps.{Memory, settle, step_of, memory_of, Stepping}
use Rattle.receiving.specs.Alone.{line_alone, texts_alone, frames_alone, SteppingAlone}
use Rattle.receiving.specs.Closing.{test_of}
use Rattle.receiving.specs.declared.Alone.{Alone}
use Rattle.looking.specs.declared.Event.{Event}
use Rattle.looking.specs.declared.Look.{Look}
use Rattle.looking.specs.declared.Look.TheVariants.{Done, Decides}
use Rattle.looking.specs.declared.Verdict.{Verdict}
use Rattle.looking.specs.Verdicts.{Left}
use Rattle.looking.proofs.Alone.{Acts, alone_acts, ready}
use Rattle.receiving.proofs.Fits.{quiet_keeps}

-- lent memory is known by its three parts
pub memory_is : {a b : Memory} → a.journal ≡ b.journal → a.unfinished ≡ b.unfinished → a.frames ≡ b.frames → a ≡ b
memory_is p q r = λ z. record { journal = p z; unfinished = q z; frames = r z }

-- an event on its line alone: the row of the look's verdict, or a look that decides
module _ (l : Line) (e : Event) (n : ℕ) (u f : List ℕ) where
  pub alone_settled : {v : Verdict} {l' : Line} {u' f' : List ℕ} → Done v ≡ look_alone l e n u f → Settled v.act e.kind l e.line u f l' u' f'
      → SteppingAlone l e n (record { unfinished = u; frames = f }) (record { line = l'; look = Done v }) (record { unfinished = u'; frames = f' })
  alone_settled h s = record {
    look = h;
    line = s.line ∙ ap (λ (x : Look). line_alone x l) h;
    unfinished = s.texts ∙ ap (λ (x : Look). texts_alone x l e.line u f) h;
    frames = s.frames ∙ ap (λ (x : Look). frames_alone x e.kind l e.line f) h;
  }

  pub alone_decides : {k : Look} {m : ℕ} → k ≡ look_alone l e n u f → k ≡ Decides m → SteppingAlone l e n (record { unfinished = u; frames = f }) (record { line = l; look = k }) (record { unfinished = u; frames = f })
  alone_decides h p =
      let q = sym p ∙ h in
      record {
        look = h;
        line = ap (λ (x : Look). line_alone x l) q;
        unfinished = ap (λ (x : Look). texts_alone x l e.line u f) q;
        frames = ap (λ (x : Look). frames_alone x e.kind l e.line f) q;
      }

-- that a text fits is two tests
pub fits_test : (l : Line) (n : ℕ) → TextFits l n → text_fits l n ≡ true
fits_test l n t = rw (le-leb (n + 5) l.collected t.0, le-leb (l.joined + n) message_limit t.1)

test_fits : (l : Line) (n : ℕ) → text_fits l n ≡ true → TextFits l n
test_fits l n h =
    let a = and_left (leb (n + 5) l.collected) (leb (l.joined + n) message_limit) h in
    let b = and_right (leb (n + 5) l.collected) (leb (l.joined + n) message_limit) h in
    (leb-true (n + 5) l.collected a, leb-true (l.joined + n) message_limit b)

module _ (l : Line) (d : Ledger) (e : Event) (j u f : List ℕ) where
  abbrev pub by : Look → Verdict
  by k = decided k todays_shares l d e.line j (texts_of e.line u) (frames_of e.line f)

  -- the step is what the line alone comes to, with the decision where it asks for one
  verdict_alone : verdict_of todays_shares l d e j u f ≡ by (look_alone l e (length j) u f)
  unfolding verdict_of own_work look_alone
  verdict_alone = by_tests (ltb e.line lines) (right_sizes j u f) (within_limits l) (look_of l e.kind (texts_of e.line u) (frames_of e.line f))
    where
      by_tests : (a b c : Bool) (k : Look) → unless a (Left NoLine) (unless b (Left WrongSize) (unless c (Left BeyondLimits) (by k)))
          ≡ by (unless a (Done (Left NoLine)) (unless b (Done (Left WrongSize)) (unless c (Done (Left BeyondLimits)) k)))
      by_tests true true true k = refl
      by_tests true true false k = refl
      by_tests true false c k = refl
      by_tests false b c k = refl

  pub verdict_by : {k : Look} → look_alone l e (length j) u f ≡ k → verdict_of todays_shares l d e j u f ≡ by k
  verdict_by h = verdict_alone ∙ ap by h

  -- a step that is done on the line alone leaves the ledger and the journal
  pub step_after : (s : Alone) (v : Verdict) {a : Answer} {u' f' : List ℕ} → SteppingAlone l e (length j) (record { unfinished = u; frames = f }) s (record { unfinished = u'; frames = f' }) → s.look ≡ Done v → a ≡ v.answer
      → Stepping l d e (memory_of j u f) (record { line = s.line; ledger = d; answer = a }) (memory_of j u' f')
  unfolding step_of
  step_after s v {a} {u'} {f'} t h p =
      let k : look_alone l e (length j) u f ≡ Done v = sym t.look ∙ h in
      let w : v ≡ verdict_of todays_shares l d e j u f = sym (verdict_by k) in
      let (ledger, journal) = quiet_keeps v.act d e.line (λ n. joined_text l n (texts_of e.line u) (frames_of e.line f)) j (subst (λ (x : Look). Acts x l e.line u f) k (alone_acts l e (length j) u f)).1 in
      let after : s.line ≡ line_after v.act l = t.line ∙ ap (λ (x : Look). line_alone x l) k in
      record {
        result = rw (after, p) (ap (λ (z : Ledger). record { line = line_after v.act l; ledger = z; answer = v.answer }) (sym ledger) ∙ ap (λ (z : Verdict). (settle z l d e (memory_of j u f)).stepped) w);
        memory = memory_is
            (sym journal ∙ ap (λ (z : Verdict). (settle z l d e (memory_of j u f)).memory.journal) w)
            (t.unfinished ∙ ap (λ (x : Look). texts_alone x l e.line u f) k ∙ ap (λ (x : Verdict). texts_after x.act l e.line u f) w)
            (t.frames ∙ ap (λ (x : Look). frames_alone x e.kind l e.line f) k ∙ ap (λ (x : Verdict). frames_after x.act e.kind l e.line f) w);
      }

  -- where it decides, nothing is changed
  pub alone_asks : (s : Alone) {n : ℕ} {u' f' : List ℕ} → SteppingAlone l e (length j) (record { unfinished = u; frames = f }) s (record { unfinished = u'; frames = f' }) → s.look ≡ Decides n → (look_alone l e (length j) u f ≡ Decides n) × (u' ≡ u) × (f' ≡ f)
  alone_asks s t h =
      let k = sym t.look ∙ h in
      (k, t.unfinished ∙ ap (λ (x : Look). texts_alone x l e.line u f) k, t.frames ∙ ap (λ (x : Look). frames_alone x e.kind l e.line f) k)

-- what has passed the tests: the line is ready and the text fits
pub tested_ready : (l : Line) (e : Event) (n : ℕ) (j : ℕ) (u f : List ℕ) → test_of l e.line n j (length u) (length f) ≡ Ok tt → Ready l e.line u f × TextFits l n
unfolding test_of
tested_ready l e n j u f h = by_line_law (ltb e.line lines) refl h
  where
    by_limits : (b : Bool) → within_limits l && text_fits l n ≡ b → e.line < lines → right_lengths j (length u) (length f) ≡ true → unless b (Err BeyondLimits) (Ok (tt {0})) ≡ Ok tt → Ready l e.line u f × TextFits l n
    by_limits true w p k h = (ready l e j u f p k (and_left (within_limits l) (text_fits l n) w), test_fits l n (and_right (within_limits l) (text_fits l n) w))
    by_limits false w p k h = let z : ◌≡◌ {A = ℕ} 0 1 = cc in absurd (omega arith)

    by_sizes : (b : Bool) → right_lengths j (length u) (length f) ≡ b → e.line < lines → unless b (Err WrongSize) (unless (within_limits l && text_fits l n) (Err BeyondLimits) (Ok (tt {0}))) ≡ Ok tt → Ready l e.line u f × TextFits l n
    by_sizes true k p h = by_limits (within_limits l && text_fits l n) refl p k h
    by_sizes false k p h = let z : ◌≡◌ {A = ℕ} 0 1 = cc in absurd (omega arith)

    by_line_law : (b : Bool) → ltb e.line lines ≡ b → unless b (Err NoLine) (unless (right_lengths j (length u) (length f)) (Err WrongSize) (unless (within_limits l && text_fits l n) (Err BeyondLimits) (Ok (tt {0})))) ≡ Ok tt → Ready l e.line u f × TextFits l n
    by_line_law true p h = by_sizes (right_lengths j (length u) (length f)) refl (ltb-true e.line lines p) h
    by_line_law false p h = let z : ◌≡◌ {A = ℕ} 0 1 = cc in absurd (omega arith)

-- and a line that is ready, with a text that fits, passes them
pub ready_tested : (l : Line) (i n : ℕ) (u f : List ℕ) → Ready l i u f → TextFits l n → test_of l i n journal_size (length u) (length f) ≡ Ok tt
unfolding test_of
ready_tested l i n u f r t =
    rw (lt-ltb i lines r.line, eq-eqb (length u) unfinished_size r.texts, eq-eqb (length f) frames_size r.bytes, r.within, fits_test l n t)

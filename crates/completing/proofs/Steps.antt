-- What each way out of the deciding says, and that with it the step on the line alone is the whole step.
-- Assumes nothing.
use Rattle.std.specs.Prelude.{Err, Ok, Result}
use mathlib.Core.Path.{◌≡◌, refl, sym, ap, subst, ◌∙◌}
use mathlib.Core.Bool.{Bool, true, false, ◌&&◌}
use mathlib.Core.List.{List}
use Prim.Native.Nat.{ℕ}
use native.Mathlib.Omega.{arith}
use lib.ListN.{length}
use lib.Dec.{ltb}
use Rattle.memory.specs.Sizes.{lines, journal_size}
use Rattle.memory.specs.Tests.{unless}
use Rattle.room.specs.Room.{todays_shares}
use Rattle.journal.specs.declared.Ledger.{Ledger}
use Rattle.deciding.specs.Decisions.{outcome_of, ledger_by, journal_by}
use Rattle.deciding.specs.declared.Fate.{Fate}
use Rattle.deciding.specs.declared.Outcome.{Outcome}
use Rattle.deciding.specs.declared.Decided.{Decided}
use Rattle.line.specs.Line.{within_limits}
use Rattle.line.specs.declared.Line.{Line}
use Rattle.answers.specs.declared.Answer.{Answer}
use Rattle.answers.specs.declared.Answer.TheVariants.{NoLine, WrongSize, BeyondLimits}
use Rattle.looking.specs.Views.{frames_of, texts_of, joined_text}
use Rattle.looking.specs.Inner.Ready.{Ready}
use Rattle.looking.specs.Lent.{right_sizes}
use Rattle.looking.specs.Looks.{look_of, look_alone}
use Rattle.looking.specs.Fitting.{text_fits}
use Rattle.looking.specs.Inner.Fitting.{TextFits}
use Rattle.receiving.specs.Verdicts.{fate_act}
use Rattle.receiving.specs.Settled.{line_after, texts_after, frames_after, ledger_after, journal_after}
use Rattle.receiving.specs.Steps.{AfterStep, settle, step_of, Leaves, memory_of, Stepping}
use Rattle.receiving.specs.Alone.{SteppingAlone}
use Rattle.receiving.specs.Closing.{test_of, closing_act, Closing}
use Rattle.completing.specs.Deciding.{completed, completion_of, decide_of, Deciding}
use Rattle.completing.specs.Inner.Completing.{Completion, Completing}
use Rattle.receiving.specs.declared.Alone.{Alone}
use Rattle.looking.specs.declared.Event.{Event}
use Rattle.looking.specs.declared.Look.{Look}
use Rattle.looking.specs.declared.Look.TheVariants.{Done, Decides}
use Rattle.receiving.specs.declared.Stepped.{Stepped}
use Rattle.looking.specs.declared.Act.{Act}
use Rattle.looking.specs.declared.Verdict.{Verdict}
use Rattle.looking.specs.Verdicts.{Left}
use Rattle.looking.proofs.Alone.{Acts, alone_acts}
use Rattle.receiving.proofs.Steps.{memory_is, fits_test, verdict_by, alone_asks, ready_tested}

-- a decision stores the text of its own frame: what the line would have with another length does not matter
fate_row : (o : Fate) (d : Ledger) (i n : ℕ) (text : ℕ → List ℕ) (j : List ℕ)
    → (ledger_by o d i (text n) ≡ ledger_after (fate_act o n) d i text) × (journal_by o d i (text n) j ≡ journal_after (fate_act o n) d i text j)
fate_row Fate.Store d i n text j = (refl, refl)
fate_row Fate.Object d i n text j = (refl, refl)
fate_row Fate.Leave d i n text j = (refl, refl)

module _ (l : Line) (d : Ledger) (e : Event) (j u f : List ℕ) where
  -- and the deciding is the step
  completion_is : (n : ℕ) → look_alone l e (length j) u f ≡ Decides n → text_fits l n ≡ true → completion_of todays_shares l d e n (memory_of j u f) ≡ completed todays_shares l d e n (memory_of j u f)
  unfolding look_alone completion_of
  completion_is n h t = by_tests (ltb e.line lines) (right_sizes j u f) (within_limits l) (look_of l e.kind (texts_of e.line u) (frames_of e.line f)) (completed todays_shares l d e n (memory_of j u f)) h
    where
      by_tests : (a b c : Bool) (k : Look) (v : Verdict) → unless a (Done (Left NoLine)) (unless b (Done (Left WrongSize)) (unless c (Done (Left BeyondLimits)) k)) ≡ Decides n
          → unless a (Left NoLine) (unless b (Left WrongSize) (unless (c && text_fits l n) (Left BeyondLimits) v)) ≡ v
      by_tests true true true k v h = rw t
      by_tests true true false k v h = let z : ◌≡◌ {A = ℕ} 0 1 = cc in absurd (omega arith)
      by_tests true false c k v h = let z : ◌≡◌ {A = ℕ} 0 1 = cc in absurd (omega arith)
      by_tests false b c k v h = let z : ◌≡◌ {A = ℕ} 0 1 = cc in absurd (omega arith)

  pub step_decides : (n : ℕ) → look_alone l e (length j) u f ≡ Decides n → step_of todays_shares l d e (memory_of j u f) ≡ decide_of todays_shares l d e n (memory_of j u f)
  unfolding step_of decide_of
  step_decides n h =
      let t = subst (λ (x : Look). Acts x l e.line u f) h (alone_acts l e (length j) u f) in
      ap (λ (v : Verdict). settle v l d e (memory_of j u f)) (verdict_by l d e j u f h ∙ sym (completion_is n h (fits_test l n t.0)))

  pub step_asks : (s : Alone) {n : ℕ} {u₁ f₁ : List ℕ} {r : Stepped} {j' u' f' : List ℕ} → SteppingAlone l e (length j) (record { unfinished = u; frames = f }) s (record { unfinished = u₁; frames = f₁ }) → s.look ≡ Decides n → Deciding l d e n (memory_of j u₁ f₁) r (memory_of j' u' f')
      → Stepping l d e (memory_of j u f) r (memory_of j' u' f')
  step_asks s {n} {u₁} {f₁} {r} {j'} {u'} {f'} a h t =
      let (k, p, q) = alone_asks l d e j u f s a h in
      let x : Deciding l d e n (memory_of j u f) r (memory_of j' u' f') = rw (← p, ← q) t in
      subst (λ (y : AfterStep). Leaves y r (memory_of j' u' f')) (sym (step_decides n k)) x

-- deciding: 40, 41, 42, then the decision
module _ (l : Line) (d : Ledger) (e : Event) (n : ℕ) (j u f : List ℕ) where
  abbrev by_test : Result (Unit {0}) Answer → Verdict
  by_test (Ok tt) = completed todays_shares l d e n (memory_of j u f)
  by_test (Err a) = Left a

  decide_by : (v : Verdict) {r : Stepped} {j' u' f' : List ℕ} → completion_of todays_shares l d e n (memory_of j u f) ≡ v → Leaves (settle v l d e (memory_of j u f)) r (memory_of j' u' f') → Deciding l d e n (memory_of j u f) r (memory_of j' u' f')
  unfolding decide_of
  decide_by v {r} {j'} {u'} {f'} h s = subst (λ (x : Verdict). Leaves (settle x l d e (memory_of j u f)) r (memory_of j' u' f')) (sym h) s

  -- 40, 41 and 42 are the tests of the deciding
  completion_tested : completion_of todays_shares l d e n (memory_of j u f) ≡ by_test (test_of l e.line n (length j) (length u) (length f))
  unfolding completion_of test_of
  completion_tested = by_tests (ltb e.line lines) (right_sizes j u f) (within_limits l && text_fits l n)
    where
      by_tests : (a b c : Bool) → unless a (Left NoLine) (unless b (Left WrongSize) (unless c (Left BeyondLimits) (completed todays_shares l d e n (memory_of j u f))))
          ≡ by_test (unless a (Err NoLine) (unless b (Err WrongSize) (unless c (Err BeyondLimits) (Ok tt))))
      by_tests true true true = refl
      by_tests true true false = refl
      by_tests true false c = refl
      by_tests false b c = refl

  pub decide_refused : (a : Answer) → test_of l e.line n (length j) (length u) (length f) ≡ Err a → Deciding l d e n (memory_of j u f) (record { line = l; ledger = d; answer = a }) (memory_of j u f)
  decide_refused a h = decide_by (Left a) (completion_tested ∙ ap by_test h) (record { result = refl; memory = refl })

  pub decide_work : (r : Stepped) (j' u' f' : List ℕ) → test_of l e.line n (length j) (length u) (length f) ≡ Ok tt → Completing l d e n (memory_of j u f) r (memory_of j' u' f') → Deciding l d e n (memory_of j u f) r (memory_of j' u' f')
  decide_work r j' u' f' h s = decide_by (completed todays_shares l d e n (memory_of j u f)) (completion_tested ∙ ap by_test h) s

  module _ (r : Stepped) where
    -- what the decision and its row leave
    pub decision_settled : (c : Decided) (k : Line) (j' u' f' : List ℕ) → Completion l d e.line n j u f c j'
        → Ready l e.line u f → TextFits l n → Closing l e n c.outcome.fate (record { unfinished = u; frames = f }) k (record { unfinished = u'; frames = f' })
        → r ≡ record { line = k; ledger = c.ledger; answer = c.outcome.answer } → Completing l d e n (memory_of j u f) r (memory_of j' u' f')
    decision_settled c k j' u' f' t ready fits s q =
        let text : ℕ → List ℕ = λ m. joined_text l m (texts_of e.line u) (frames_of e.line f) in
        let o : Outcome = outcome_of todays_shares d e.line (text n) j in
        let act : Act = fate_act o.fate n in
        let (ledger, journal) = fate_row o.fate d e.line n text j in
        let tested = ready_tested l e.line n u f ready fits in
        let is : closing_act (test_of l e.line n journal_size (length u) (length f)) c.outcome.fate n ≡ act = rw tested (ap (λ (x : Outcome). fate_act x.fate n) t.outcome) in
        let line : k ≡ line_after act l = s.line ∙ ap (λ (x : Act). line_after x l) is in
        let booked : c.ledger ≡ ledger_after act d e.line text = t.ledger ∙ ledger in
        let says : c.outcome.answer ≡ o.answer = ap (λ (x : Outcome). x.answer) t.outcome in
        record {
          result = q ∙ (λ z. record { line = line z; ledger = booked z; answer = says z });
          memory = memory_is (t.journal ∙ journal) (s.unfinished ∙ ap (λ (x : Act). texts_after x l e.line u f) is) (s.frames ∙ ap (λ (x : Act). frames_after x e.kind l e.line f) is);
        }

-- No event is answered 54, in whatever state: a text that it completes ends with CR.
-- Assumes nothing.
use Rattle.std.specs.Prelude.{Err, Ok, Result}
use Rattle.journal.specs.declared.Refusal.{Refusal}
use Rattle.faults.specs.declared.Flaw.{Flaw}
use mathlib.Core.Path.{◌≡◌, refl, sym, ap, subst}
use mathlib.Core.Logic.{◌≢◌}
use mathlib.Core.Bool.{Bool, true, false}
use mathlib.Core.List.{List}
use Prim.Native.Nat.{ℕ}
use borrow.Author.Tests.{ne_eqb}
use lib.Dec.{eqb}
use lib.ListN.{length}
use Rattle.faults.specs.Faults.{fault_of}
use Rattle.faults.proofs.Places.{fault_ended}
use Rattle.records.specs.Records.{ends_with_cr}
use Rattle.journal.specs.Verdicts.{judge_of}
use Rattle.journal.specs.declared.Ledger.{Ledger}
use Rattle.line.specs.declared.Line.{Line}
use Rattle.answers.specs.Paper.{fault_number, is_faulty, number_of}
use Rattle.answers.specs.declared.Answer.{Answer}
use Rattle.answers.specs.declared.Fault.{Fault}
use Rattle.answers.specs.declared.Fault.TheVariants.{NoFinalCr}
use Rattle.answers.proofs.Paper.{every_but, fault_injective}
use Rattle.looking.specs.Views.{frames_of, texts_of, joined_text}
use Rattle.looking.specs.Inner.Ready.{Ready}
use Rattle.looking.specs.Looks.{look_of}
use Rattle.looking.specs.declared.Event.{Event}
use Rattle.looking.specs.declared.Look.{Look}
use Rattle.looking.specs.declared.Look.TheVariants.{Done, Decides}
use Rattle.looking.specs.declared.Verdict.{Verdict}
use Rattle.looking.proofs.Views.{own_parts}
use Rattle.looking.proofs.Cases.{Cases, every_look}
use Rattle.looking.proofs.Joins.{LookJoins, look_joins}
use Rattle.deciding.specs.Decisions.{objection, objection_to, room_outcome}
use Rattle.deciding.proofs.Decisions.{outcome_cases}
use Rattle.receiving.specs.Verdicts.{decided, own_work, work_of, verdict_of}
use Rattle.gateway_laws.proofs.Found.{Found, refused, worked, verdict_found}

-- ---- answers

abbrev pub is54 : Answer → Bool
is54 a = eqb (number_of a) 54

-- 54 is of a fault
no_fault : (a : Answer) → is_faulty (number_of a) ≡ false → is54 a ≡ false
no_fault a h = every_but (λ b. is_faulty (number_of b)) is54 (λ vs. refl) a h

-- ---- a text that is complete

checked_ended : (x : Result (Unit {0}) Flaw) → ((place : ℕ) → x ≢ Err (Flaw.Faulty NoFinalCr place)) → is54 (objection x) ≡ false
checked_ended (Ok tt) h = refl
checked_ended (Err Flaw.NotText) h = refl
checked_ended (Err (Flaw.Faulty f place)) h = ne_eqb (fault_number f) 54 (λ e. h place (ap (λ (g : Fault). Err (Flaw.Faulty g place)) (fault_injective f NoFinalCr e)))

objection_ended : (text : List ℕ) → ends_with_cr text ≡ true → is54 (objection_to text) ≡ false
unfolding objection_to
objection_ended text h = checked_ended (fault_of text) (λ place. fault_ended _ text place h)

room_ended : (q : Result (Unit {0}) Refusal) → is54 (room_outcome q).answer ≡ false
room_ended (Ok tt) = refl
room_ended (Err Refusal.NoRoom) = refl
room_ended (Err Refusal.Broken) = refl
room_ended (Err Refusal.NoLine) = refl
room_ended (Err Refusal.WrongSize) = refl
room_ended (Err Refusal.Malformed) = refl

-- ---- a look finds no fault

abbrev LookFaultless : Look → Type 0
LookFaultless (Done v) = is_faulty (number_of v.answer) ≡ false
LookFaultless (Decides n) = Unit {0}

faultless : (l : Line) → Cases LookFaultless l
faultless l = record {
  ignored = refl;
  busy = refl;
  opens = refl;
  ended = refl;
  dropped = refl;
  timed_out = refl;
  begins = refl;
  counts = λ n h. refl;
  collects = λ h. refl;
  unended = refl;
  torn = refl;
  unchecked = refl;
  foreign = refl;
  unnumbered = refl;
  refused = refl;
  repeated = refl;
  missed = refl;
  overlong = refl;
  no_cr = refl;
  accepts = λ n t. refl;
  decides = λ n t. tt;
  sends = λ t e. record { stays = refl; awaits = λ n h. refl; goes = λ s n h k. refl; over = refl; given_up = refl };
}

module _ (shares : List ℕ) (l : Line) (d : Ledger) (e : Event) (j u f : List ℕ) where
  work_ended : Ready l e.line u f → is54 (work_of shares l d e j u f).answer ≡ false
  unfolding own_work
  work_ended r =
      let texts = texts_of e.line u in
      let frames = frames_of e.line f in
      by_look texts frames (look_of l e.kind texts frames) (every_look LookFaultless l (faultless l) texts frames (own_parts l e.line u f r) e.kind) (look_joins l texts frames e.kind)
    where
      by_look : (texts frames : List ℕ) (k : Look) → LookFaultless k → LookJoins k l texts frames → is54 (decided k shares l d e.line j texts frames).answer ≡ false
      by_look texts frames (Done v) a c = no_fault v.answer a
      by_look texts frames (Decides n) a c =
          let text = joined_text l n texts frames in
          outcome_cases shares d e.line text j (λ o. is54 o.answer ≡ false) (objection_ended text c.1) (room_ended (judge_of d shares e.line (length text) j))

  -- whatever the record, the ledger and the memory hold
  pub verdict_ended : is54 (verdict_of shares l d e j u f).answer ≡ false
  verdict_ended = by_found (verdict_of shares l d e j u f) (verdict_found shares l d e j u f)
    where
      by_found : (v : Verdict) → Found shares l d e j u f v → is54 v.answer ≡ false
      by_found v (refused a q p) = no_fault a p
      by_found v (worked w) = subst (λ (x : Verdict). is54 x.answer ≡ false) (sym w.work) (work_ended w.ready)

-- Every verdict gives an answer that goes with its act.
-- Assumes nothing.
use Rattle.std.specs.Prelude.{Err, Ok, Result}
use Rattle.journal.specs.declared.Refusal.{Refusal}
use Rattle.faults.specs.declared.Flaw.{Flaw}
use mathlib.Core.Path.{◌≡◌, refl, sym, ap, subst, ◌∙◌}
use mathlib.Core.List.{List}
use Prim.Native.Nat.{ℕ}
use lib.ListN.{length}
use Rattle.journal.specs.Verdicts.{judge_of}
use Rattle.journal.specs.declared.Ledger.{Ledger}
use Rattle.line.specs.declared.Line.{Line}
use Rattle.looking.specs.Views.{frames_of, texts_of, joined_text}
use Rattle.looking.specs.Inner.Ready.{Ready}
use Rattle.looking.specs.Looks.{look_of}
use Rattle.faults.specs.Faults.{fault_of}
use Rattle.deciding.specs.Decisions.{objection, objection_to, room_outcome}
use Rattle.deciding.proofs.Decisions.{outcome_cases}
use Rattle.receiving.specs.Verdicts.{outcome_verdict, decided, own_work, work_of, verdict_of}
use Rattle.looking.specs.declared.Event.{Event}
use Rattle.looking.specs.declared.Look.{Look}
use Rattle.looking.specs.declared.Look.TheVariants.{Done, Decides}
use Rattle.answers.specs.declared.Answer.{Answer}
use Rattle.answers.specs.declared.Answer.TheVariants.{Sends}
use Rattle.looking.specs.declared.Act.{Act}
use Rattle.looking.specs.declared.Act.TheVariants.{Leave, Open, Close, Begin, Count, Collect, Refuse, Accept, Store, Object, Await, Go}
use Rattle.line.specs.declared.Sending.{Sending}
use Rattle.line.specs.declared.Sending.TheVariants.{Asking, Pausing, Offering}
use Rattle.looking.specs.Verdicts.{parcel_of}
use Rattle.looking.specs.declared.Verdict.{Verdict}
use Rattle.looking.proofs.Views.{own_parts}
use Rattle.looking.proofs.Cases.{Cases, every_look}
use Rattle.gateway_laws.specs.Classes.{against, sending, class_of}
use Rattle.gateway_laws.specs.Inner.Classes.{act_class, Goes}
use Rattle.gateway_laws.proofs.Found.{Found, refused, worked, verdict_found}

pub parcel_sends : (s : Sending) → class_of (Sends (parcel_of s)) ≡ sending
parcel_sends (Asking n) = refl
parcel_sends (Pausing n) = refl
parcel_sends (Offering n at) = refl

-- an answer that goes with an act has its class
pub goes_class : (x : Act) (a : Answer) → Goes x a → class_of a ≡ act_class x
goes_class Leave a h = h
goes_class Open a h = ap class_of h
goes_class Close a h = h
goes_class Begin a h = ap class_of h
goes_class (Count n) a h = ap class_of h
goes_class Collect a h = ap class_of h
goes_class Refuse a h = h
goes_class (Accept n) a h = ap class_of h
goes_class (Store n) a h = ap class_of h
goes_class (Object n) a h = h
goes_class (Await n) a h = ap class_of h
goes_class (Go s n) a h = ap class_of h ∙ parcel_sends s

abbrev pub Proper : Verdict → Type 0
Proper v = Goes v.act v.answer

abbrev LookProper : Look → Type 0
LookProper (Done v) = Proper v
LookProper (Decides n) = Unit {0}

proper : (l : Line) → Cases LookProper l
proper l = record {
  ignored = refl;
  busy = refl;
  opens = refl;
  ended = refl;
  dropped = refl;
  timed_out = refl;
  begins = refl;
  counts = λ n h. refl;
  collects = λ h. refl;
  unended = refl;
  torn = refl;
  unchecked = refl;
  foreign = refl;
  unnumbered = refl;
  refused = refl;
  repeated = refl;
  missed = refl;
  overlong = refl;
  no_cr = refl;
  accepts = λ n t. refl;
  decides = λ n t. tt;
  sends = λ t e. record { stays = refl; awaits = λ n h. refl; goes = λ s n h k. refl; over = refl; given_up = refl };
}

room_proper : (q : Result (Unit {0}) Refusal) (n : ℕ) → Proper (outcome_verdict (room_outcome q) n)
room_proper (Ok tt) n = refl
room_proper (Err Refusal.NoRoom) n = refl
room_proper (Err Refusal.Broken) n = refl
room_proper (Err Refusal.NoLine) n = refl
room_proper (Err Refusal.WrongSize) n = refl
room_proper (Err Refusal.Malformed) n = refl

-- the answer to a text that is no message decides against it
checked_against : (x : Result (Unit {0}) Flaw) → class_of (objection x) ≡ against
checked_against (Ok tt) = refl
checked_against (Err Flaw.NotText) = refl
checked_against (Err (Flaw.Faulty f place)) = refl

pub objection_against : (text : List ℕ) → class_of (objection_to text) ≡ against
unfolding objection_to
objection_against text = checked_against (fault_of text)

module _ (shares : List ℕ) (l : Line) (d : Ledger) (e : Event) (j u f : List ℕ) where
  decided_proper : (texts frames : List ℕ) (k : Look) → LookProper k → Proper (decided k shares l d e.line j texts frames)
  decided_proper texts frames (Done v) p = p
  decided_proper texts frames (Decides n) p =
      let text = joined_text l n texts frames in
      outcome_cases shares d e.line text j (λ o. Proper (outcome_verdict o n)) (objection_against text) (room_proper (judge_of d shares e.line (length text) j) n)

  work_proper : Ready l e.line u f → Proper (work_of shares l d e j u f)
  unfolding own_work
  work_proper r =
      let texts = texts_of e.line u in
      let frames = frames_of e.line f in
      decided_proper texts frames (look_of l e.kind texts frames) (every_look LookProper l (proper l) texts frames (own_parts l e.line u f r) e.kind)

  pub verdict_proper : Proper (verdict_of shares l d e j u f)
  verdict_proper = by_found (verdict_of shares l d e j u f) (verdict_found shares l d e j u f)
    where
      by_found : (v : Verdict) → Found shares l d e j u f v → Proper v
      by_found v (refused b q n) = q
      by_found v (worked w) = subst Proper (sym w.work) (work_proper w.ready)

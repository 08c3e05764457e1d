-- The laws of one event and of one taking. The theorems above use these, and not the code.
-- Assumes nothing.
use mathlib.Core.Path.{◌≡◌, refl, sym, ap, ap₂, subst, ◌∙◌}
use mathlib.Core.Logic.{◌≢◌}
use mathlib.Core.Bool.{true}
use mathlib.Core.List.{List}
use Prim.Native.Nat.{ℕ, ◌+◌}
use native.Mathlib.Omega.{arith}
use lib.ListN.{length}
use Rattle.journal.specs.Storage.{grown, appended}
use Rattle.journal.specs.declared.Ledger.{Ledger}
use Rattle.line.specs.Line.{within_limits, waiting_line}
use Rattle.line.specs.declared.Line.{Line}
use Rattle.answers.specs.declared.Answer.{Answer}
use Rattle.answers.specs.declared.Answer.TheVariants.{Nothing, Stored}
use Rattle.line.proofs.Limits.{Within, within_facts, within_of, opened_within, closed_within, begun_within, collected_within, counted_within, waiting_within, accepted_within, refusing_within, gone_within}
use Rattle.looking.specs.Views.{frames_of, texts_of, joined_text}
use Rattle.looking.specs.Looks.{look_of}
use Rattle.receiving.specs.Verdicts.{own_work, verdict_of}
use Rattle.receiving.specs.Settled.{line_after, with_byte}
use Rattle.looking.specs.Inner.Fitting.{Fitting}
use Rattle.receiving.specs.Steps.{Memory, AfterStep, settle, step_of}
use Rattle.gateway.specs.Events.{take_of}
use Rattle.looking.specs.declared.Event.{Event}
use Rattle.gateway.specs.Gateway.{Gateway}
use Rattle.looking.specs.declared.Look.TheVariants.{Done}
use Rattle.looking.specs.Verdicts.{verdict, Left, Stores}
use Rattle.looking.specs.declared.Act.{Act}
use Rattle.looking.specs.declared.Act.TheVariants.{Leave, Open, Close, Begin, Count, Collect, Refuse, Accept, Store, Object, Await, Go}
use Rattle.looking.specs.declared.Verdict.{Verdict}
use Rattle.gateway_laws.specs.Classes.{Class, quiet, refusing, storing, class_of}
use Rattle.gateway_laws.proofs.Found.{Found, refused, worked, verdict_found}
use Rattle.gateway_laws.proofs.Rows.{store_rows, Of, leaves, begins, counts, collects, refuses, stores, of_class}
use Rattle.gateway_laws.specs.Inner.Classes.{Goes}
use Rattle.gateway_laws.proofs.Proper.{goes_class, verdict_proper}
use Rattle.gateway_laws.proofs.Others.{texts_length, frames_length, texts_other, frames_other}

-- nothing changed, with an answer
abbrev pub unchanged : Line → Ledger → Memory → Answer → AfterStep
unchanged l d m a = record { stepped = record { line = l; ledger = d; answer = a }; memory = m }

-- what every judged frame changes, with an answer
abbrev pub judged : Line → Ledger → Event → Memory → Answer → AfterStep
judged l d e m a = record {
  stepped = record { line = waiting_line l; ledger = d; answer = a };
  memory = record { journal = m.journal; unfinished = m.unfinished; frames = with_byte e.kind l e.line m.frames };
}

module _ (shares : List ℕ) (l : Line) (d : Ledger) (e : Event) (m : Memory) where
  abbrev found : Verdict
  found = verdict_of shares l d e m.journal m.unfinished m.frames

  step_is : (v : Verdict) → found ≡ v → step_of shares l d e m ≡ settle v l d e m
  unfolding step_of
  step_is v h = ap (λ (x : Verdict). settle x l d e m) h

  -- by what is done with the line
  step_by : (x : Act) → found.act ≡ x → step_of shares l d e m ≡ settle (verdict x found.answer) l d e m
  unfolding step_of
  step_by x h = ap (λ (y : Act). settle (verdict y found.answer) l d e m) h

  answer_is : (step_of shares l d e m).stepped.answer ≡ found.answer
  unfolding step_of
  answer_is = refl

  -- the answer goes with what is done
  goes : (x : Act) → found.act ≡ x → Goes x found.answer
  goes x h = subst (λ (y : Act). Goes y found.answer) h (verdict_proper shares l d e m.journal m.unfinished m.frames)

  -- which is of the answer's class
  found_of : (c : Class) → class_of (step_of shares l d e m).stepped.answer ≡ c → Of c found.act
  found_of c h = subst (λ (x : Class). Of x found.act) (sym (goes_class found.act found.answer (goes found.act refl)) ∙ sym (ap class_of answer_is) ∙ h) (of_class found.act)

  -- an ignored event, 20 and 40 to 43 change nothing at all
  pub left_unchanged : (a : Answer) → found ≡ Left a → step_of shares l d e m ≡ unchanged l d m a
  left_unchanged a h = step_is (Left a) h

  pub refused_unchanged : (a : Answer) → (step_of shares l d e m).stepped.answer ≡ a → class_of a ≡ quiet → a ≢ Nothing → step_of shares l d e m ≡ unchanged l d m a
  refused_unchanged a h q n = row found.act refl (found_of quiet (ap class_of h ∙ q))
    where
      answered : found.answer ≡ a
      answered = sym answer_is ∙ h

      row : (x : Act) → found.act ≡ x → Of quiet x → step_of shares l d e m ≡ unchanged l d m a
      row Leave p leaves = step_by Leave p ∙ ap (unchanged l d m) answered
      row Begin p begins = absurd (n (sym answered ∙ goes Begin p))
      row (Count k) p (counts c) = absurd (n (sym answered ∙ goes (Count k) p))
      row Collect p collects = absurd (n (sym answered ∙ goes Collect p))
      row Open p x = elim x [ ]
      row Close p x = elim x [ ]
      row Refuse p x = elim x [ ]
      row (Accept _) p x = elim x [ ]
      row (Store _) p x = elim x [ ]
      row (Object _) p x = elim x [ ]
      row (Await _) p x = elim x [ ]
      row (Go _ _) p x = elim x [ ]

  -- only 4 changes the ledger and the journal
  pub only_stored : (step_of shares l d e m).stepped.answer ≢ Stored
      → ((step_of shares l d e m).stepped.ledger ≡ d) × ((step_of shares l d e m).memory.journal ≡ m.journal)
  unfolding step_of
  only_stored n =
      store_rows d e.line (λ k. joined_text l k (texts_of e.line m.unfinished) (frames_of e.line m.frames)) m.journal
      (λ x ledger journal. Goes x found.answer → (ledger ≡ d) × (journal ≡ m.journal)) (λ x g. (refl, refl)) (λ k g. absurd (n g)) found.act (goes found.act refl)

  -- what 4 appends is the joined text, as the line's newest entry under its next serial
  pub record Storing : Type 0 where
    pub length_of : ℕ
    pub ledger : (step_of shares l d e m).stepped.ledger ≡ grown d e.line (length (joined_text l length_of (texts_of e.line m.unfinished) (frames_of e.line m.frames)))
    pub journal : (step_of shares l d e m).memory.journal ≡ appended d e.line (joined_text l length_of (texts_of e.line m.unfinished) (frames_of e.line m.frames)) m.journal
    pub verdict : found ≡ Stores length_of

  pub stored_appends : (step_of shares l d e m).stepped.answer ≡ Stored → Storing
  stored_appends h = row found.act refl (found_of storing (ap class_of h))
    where
      row : (x : Act) → found.act ≡ x → Of storing x → Storing
      row (Store k) p (stores c) = record {
        length_of = k;
        ledger = ap (λ (x : AfterStep). x.stepped.ledger) (step_by (Store k) p);
        journal = ap (λ (x : AfterStep). x.memory.journal) (step_by (Store k) p);
        verdict = ap₂ verdict p (goes (Store k) p);
      }
      row Leave p x = elim x [ ]
      row Open p x = elim x [ ]
      row Close p x = elim x [ ]
      row Begin p x = elim x [ ]
      row (Count _) p x = elim x [ ]
      row Collect p x = elim x [ ]
      row Refuse p x = elim x [ ]
      row (Accept _) p x = elim x [ ]
      row (Object _) p x = elim x [ ]
      row (Await _) p x = elim x [ ]
      row (Go _ _) p x = elim x [ ]

  -- a refused frame, a repeat among them, changes only what every judged frame changes
  pub refused_frame : (a : Answer) → (step_of shares l d e m).stepped.answer ≡ a → class_of a ≡ refusing
      → step_of shares l d e m ≡ judged l d e m a
  refused_frame a h q = row found.act refl (found_of refusing (ap class_of h ∙ q))
    where
      row : (x : Act) → found.act ≡ x → Of refusing x → step_of shares l d e m ≡ judged l d e m a
      row Refuse p refuses = step_by Refuse p ∙ ap (judged l d e m) (sym answer_is ∙ h)
      row Leave p x = elim x [ ]
      row Open p x = elim x [ ]
      row Close p x = elim x [ ]
      row Begin p x = elim x [ ]
      row (Count _) p x = elim x [ ]
      row Collect p x = elim x [ ]
      row (Accept _) p x = elim x [ ]
      row (Store _) p x = elim x [ ]
      row (Object _) p x = elim x [ ]
      row (Await _) p x = elim x [ ]
      row (Go _ _) p x = elim x [ ]

  -- sizes and limits are kept
  pub sizes_kept : (length (step_of shares l d e m).memory.unfinished ≡ length m.unfinished) × (length (step_of shares l d e m).memory.frames ≡ length m.frames)
  sizes_kept = by_found found refl (verdict_found shares l d e m.journal m.unfinished m.frames)
    where
      by_found : (v : Verdict) → found ≡ v → Found shares l d e m.journal m.unfinished m.frames v
          → (length (step_of shares l d e m).memory.unfinished ≡ length m.unfinished) × (length (step_of shares l d e m).memory.frames ≡ length m.frames)
      by_found v p (refused b q n) = (ap (λ (x : AfterStep). length x.memory.unfinished) (step_is v p), ap (λ (x : AfterStep). length x.memory.frames) (step_is v p))
      by_found v p (worked w) = (
        ap (λ (x : AfterStep). length x.memory.unfinished) (step_is v p) ∙ texts_length l e.line m.unfinished m.frames w.ready v.act w.fits,
        ap (λ (x : AfterStep). length x.memory.frames) (step_is v p) ∙ frames_length l e.line m.unfinished m.frames w.ready v.act e.kind,
      )

  pub line_within : (x : Act) → Within l → Fitting x l → Within (line_after x l)
  line_within Leave w t = w
  line_within Open w t = opened_within l w
  line_within Close w t = closed_within l w
  line_within Begin w t = begun_within l w
  line_within (Count n) w t = counted_within l w n t
  line_within Collect w t = collected_within l w (l.collected + 1) (omega arith)
  line_within Refuse w t = waiting_within l w
  line_within (Accept n) w t = accepted_within l w (l.joined + n) t.1
  line_within (Store n) w t = accepted_within l w 0 (omega arith)
  line_within (Object n) w t = refusing_within l w
  line_within (Await n) w t = counted_within l w n t
  line_within (Go s n) w t = gone_within l w s n t.0 t.1

  pub limits_kept : within_limits l ≡ true → within_limits (step_of shares l d e m).stepped.line ≡ true
  limits_kept h = by_found found refl (verdict_found shares l d e m.journal m.unfinished m.frames)
    where
      by_found : (v : Verdict) → found ≡ v → Found shares l d e m.journal m.unfinished m.frames v → within_limits (step_of shares l d e m).stepped.line ≡ true
      by_found v p (refused b q n) = ap (λ (x : AfterStep). within_limits x.stepped.line) (step_is v p) ∙ h
      by_found v p (worked w) = ap (λ (x : AfterStep). within_limits x.stepped.line) (step_is v p) ∙ within_of (line_after v.act l) (line_within v.act (within_facts l h) w.fits)

  -- the parts of other lines are untouched
  pub parts_of_others : (k : ℕ) → e.line ≢ k
      → (texts_of k (step_of shares l d e m).memory.unfinished ≡ texts_of k m.unfinished) × (frames_of k (step_of shares l d e m).memory.frames ≡ frames_of k m.frames)
  parts_of_others k n = by_found found refl (verdict_found shares l d e m.journal m.unfinished m.frames)
    where
      by_found : (v : Verdict) → found ≡ v → Found shares l d e m.journal m.unfinished m.frames v
          → (texts_of k (step_of shares l d e m).memory.unfinished ≡ texts_of k m.unfinished) × (frames_of k (step_of shares l d e m).memory.frames ≡ frames_of k m.frames)
      by_found v p (refused b q n) = (ap (λ (x : AfterStep). texts_of k x.memory.unfinished) (step_is v p), ap (λ (x : AfterStep). frames_of k x.memory.frames) (step_is v p))
      by_found v p (worked w) = (
        ap (λ (x : AfterStep). texts_of k x.memory.unfinished) (step_is v p) ∙ texts_other l e.line m.unfinished m.frames w.ready v.act w.fits k n,
        ap (λ (x : AfterStep). frames_of k x.memory.frames) (step_is v p) ∙ frames_other l e.line m.unfinished m.frames w.ready v.act e.kind k n,
      )

-- an event that does not decide does not read the journal: with another ledger and another journal of the same size its verdict is the same
pub quiet_verdict : (shares : List ℕ) (l : Line) (d d' : Ledger) (e : Event) (j j' u f : List ℕ) (v : Verdict) → length j ≡ length j' → look_of l e.kind (texts_of e.line u) (frames_of e.line f) ≡ Done v
    → verdict_of shares l d e j u f ≡ verdict_of shares l d' e j' u f
unfolding verdict_of own_work
quiet_verdict shares l d d' e j j' u f v s h = rw (s, h)

-- a taking touches no line
pub taking_lines : (g : Gateway) (i : ℕ) (j b : List ℕ) → (take_of g i j b).handled.gateway.lines ≡ g.lines
unfolding take_of
taking_lines g i j b = refl

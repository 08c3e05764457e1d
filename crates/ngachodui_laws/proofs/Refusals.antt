-- What a refusal leaves of a host's numbers and memory: everything.
-- Assumes nothing.
use mathlib.Core.Path.{◌≡◌, refl, sym, ap, ◌∙◌}
use mathlib.Core.Logic.{◌≢◌}
use mathlib.Core.Bool.{Bool, true, false, not, ◌||◌}
use mathlib.Core.List.{List}
use Prim.Native.Nat.{ℕ, ◌<◌}
use borrow.Author.Tests.{ltb-true}
use lib.Dec.{ltb}
use Rattle.memory.specs.Sizes.{lines}
use Rattle.memory.specs.Tests.{unless}
use Rattle.memory.proofs.Tests.{clash}
use Rattle.room.specs.Room.{todays_shares}
use Rattle.journal.specs.Removal.{AfterTaking, take_of as take_entry}
use Rattle.answers.specs.Paper.{number_of}
use Rattle.answers.specs.declared.Answer.{Answer}
use Rattle.answers.specs.declared.Answer.TheVariants.{Nothing, NoLine, WrongSize, BeyondLimits}
use Rattle.answers.proofs.Paper.{every_answer}
use Rattle.settings.specs.Settings.{by_dialogue}
use Rattle.settings.specs.declared.Patient.{Patient}
use Rattle.settings.specs.declared.Dialogue.{Dialogue}
use Rattle.settings.specs.declared.Dialogue.TheVariants.{Frames, Blocks}
use Rattle.journal.specs.declared.Ledger.{Ledger}
use Rattle.line.specs.declared.Line.{Line}
use Rattle.looking.specs.Lent.{right_sizes}
use Rattle.uploads.specs.Uploads.{Deed, leave, Ruling, ruling, uploaded, ruling_on, upload_of}
use Rattle.uploads.specs.Calls.{put_upload}
use Rattle.receiving.specs.Verdicts.{verdict_of}
use Rattle.gateway.specs.Events.{AfterTake, take_of}
use Rattle.looking.specs.declared.Event.{Event}
use Rattle.looking.specs.Verdicts.{Left}
use Rattle.gateway_laws.specs.Classes.{Class, class_of, quiet, opening, closing, refusing, accepting, storing, against, taking as gives, sending, hearing}
use Rattle.gateway_laws.proofs.Laws.{unchanged, left_unchanged, refused_unchanged}
use Rattle.gateway_laws.proofs.Uploads.{upload_unchanged}
use Rattle.gateway_laws.proofs.Takings.{taking_refused}
use Rattle.ledger.specs.Ledgers.{ledger_of, with_used}
use Rattle.answers.specs.InNumbers.{in_numbers}
use Rattle.numbers.specs.Plain.{line_of, within_numbers}
use Rattle.keeping.specs.Keeping.{memo_of}
use Rattle.calls.specs.Calls.{HostState, AfterCall, refused, put_back, call_of}
use Rattle.reader.specs.Takings.{TakeState, Taken as TakenBy}
use Rattle.ngachodui_laws.specs.Hosting.{gateway_of, is_refusal}
use Rattle.answers.specs.declared.Answered.{Answered}
use Rattle.ledger.proofs.Ledgers.{used_back}
use Rattle.ngachodui_laws.proofs.Hosts.{step_for, upload_for, put_unchanged, upload_put_unchanged, blocks_facts, taking_answer}

-- 20, 40 to 47 and 60 are the answers that leave everything, but for an event that is ignored or only collected
abbrev is_quiet : Class → Bool
is_quiet quiet = true
is_quiet opening = false
is_quiet closing = false
is_quiet refusing = false
is_quiet accepting = false
is_quiet storing = false
is_quiet against = false
is_quiet gives = false
is_quiet sending = false
is_quiet hearing = false

the_quiet : (refused : Bool) (c : Class) → not refused || is_quiet c ≡ true → refused ≡ true → c ≡ quiet
the_quiet true quiet p q = refl
the_quiet true opening p q = clash cc
the_quiet true closing p q = clash cc
the_quiet true refusing p q = clash cc
the_quiet true accepting p q = clash cc
the_quiet true storing p q = clash cc
the_quiet true against p q = clash cc
the_quiet true gives p q = clash cc
the_quiet true sending p q = clash cc
the_quiet true hearing p q = clash cc
the_quiet false c p q = clash cc

refusal_class : (a : Answer) → is_refusal (number_of a) ≡ true → class_of a ≡ quiet
refusal_class a h = the_quiet (is_refusal (number_of a)) (class_of a) (every_answer (λ b. not (is_refusal (number_of b)) || is_quiet (class_of b)) (λ vs. refl) a) h

not_nothing : (a : Answer) → is_refusal (number_of a) ≡ true → a ≢ Nothing
not_nothing a h q = let z : false ≡ true = ap (λ (x : Answer). is_refusal (number_of x)) (sym q) ∙ h in clash cc

module _ (s : HostState) (e : Event) where
  abbrev line : Line
  line = line_of s.numbers e.line

  abbrev ledger : Ledger
  ledger = ledger_of s.numbers s.counts

  -- each test of an event, and behind them the step of its line, or its upload
  pub by_tests : (P : AfterCall → Type 0) → P (refused NoLine s) → P (refused WrongSize s) → P (refused BeyondLimits s)
      → (e.line < lines → within_numbers s.numbers e.line ≡ true → line.settings.dialogue ≡ Frames → P (put_back s e.line (step_for s e)))
      → (e.line < lines → within_numbers s.numbers e.line ≡ true → (p : Patient) → line.settings.dialogue ≡ Blocks p → P (put_upload s e.line (upload_for s p e)))
      → P (call_of s e)
  unfolding call_of
  by_tests P p q r step upload = by_line_law (ltb e.line lines) refl
    where
      spoken : Dialogue → AfterCall
      spoken x = by_dialogue x (put_back s e.line (step_for s e)) (λ y. put_upload s e.line (upload_for s y e))

      by_dialogue_law : e.line < lines → within_numbers s.numbers e.line ≡ true → (x : Dialogue) → line.settings.dialogue ≡ x → P (spoken x)
      by_dialogue_law h w Frames f = step h w f
      by_dialogue_law h w (Blocks y) f = upload h w y f

      by_limits : (b : Bool) → e.line < lines → within_numbers s.numbers e.line ≡ b → P (unless b (refused BeyondLimits s) (spoken line.settings.dialogue))
      by_limits true h w = by_dialogue_law h w line.settings.dialogue refl
      by_limits false h w = r

      by_sizes : (b : Bool) → e.line < lines → P (unless b (refused WrongSize s) (unless (within_numbers s.numbers e.line) (refused BeyondLimits s) (spoken line.settings.dialogue)))
      by_sizes true h = by_limits (within_numbers s.numbers e.line) h refl
      by_sizes false h = q

      by_line_law : (b : Bool) → ltb e.line lines ≡ b
          → P (unless b (refused NoLine s) (unless (right_sizes s.memory.journal s.memory.unfinished s.memory.frames) (refused WrongSize s) (unless (within_numbers s.numbers e.line) (refused BeyondLimits s) (spoken line.settings.dialogue))))
      by_line_law true h = by_sizes (right_sizes s.memory.journal s.memory.unfinished s.memory.frames) (ltb-true e.line lines h)
      by_line_law false h = p

  -- a step that changes nothing changes no number, nor does an upload
  left_as_it_was : (a : Answer) → e.line < lines → within_numbers s.numbers e.line ≡ true → step_for s e ≡ unchanged line ledger s.memory a → (put_back s e.line (step_for s e)).state ≡ s
  left_as_it_was a h w q = ap (λ (c : AfterCall). c.state) (ap (put_back s e.line) q ∙ put_unchanged s e.line h w a)

  module _ (h : e.line < lines) (w : within_numbers s.numbers e.line ≡ true) (p : Patient) (f : line.settings.dialogue ≡ Blocks p) where
    upload_as_it_was : (a : Answer) → upload_for s p e ≡ record { step = unchanged line ledger s.memory a; memo = memo_of s.numbers e.line } → (put_upload s e.line (upload_for s p e)).state ≡ s
    upload_as_it_was a q = ap (λ (c : AfterCall). c.state) (ap (put_upload s e.line) q ∙ upload_put_unchanged s e.line h w (blocks_facts s.numbers e.line p w f).fits a)

  -- 20 and 40 to 43: all numbers and all memory are as they were
  pub refusal_leaves : is_refusal (call_of s e).answered.number ≡ true → (call_of s e).state ≡ s
  unfolding in_numbers
  refusal_leaves = by_tests (λ c. is_refusal c.answered.number ≡ true → c.state ≡ s) (λ h. refl) (λ h. refl) (λ h. refl) stepped uploaded
    where
      stepped : e.line < lines → within_numbers s.numbers e.line ≡ true → line.settings.dialogue ≡ Frames → is_refusal (number_of (step_for s e).stepped.answer) ≡ true → (put_back s e.line (step_for s e)).state ≡ s
      stepped h w f r =
          let a = (step_for s e).stepped.answer in
          left_as_it_was a h w (refused_unchanged todays_shares line ledger e s.memory a refl (refusal_class a r) (not_nothing a r))

      uploaded : e.line < lines → within_numbers s.numbers e.line ≡ true → (p : Patient) → line.settings.dialogue ≡ Blocks p → is_refusal (number_of (upload_for s p e).step.stepped.answer) ≡ true
          → (put_upload s e.line (upload_for s p e)).state ≡ s
      uploaded h w p f r =
          let a = (upload_for s p e).step.stepped.answer in
          upload_as_it_was h w p f a (upload_unchanged todays_shares p line (memo_of s.numbers e.line) ledger e s.memory a refl (refusal_class a r) (not_nothing a r))

  -- an ignored event too
  pub ignored_leaves : (line.settings.dialogue ≡ Frames → (a : Answer) × (verdict_of todays_shares line ledger e s.memory.journal s.memory.unfinished s.memory.frames ≡ Left a))
      → ((p : Patient) → line.settings.dialogue ≡ Blocks p → (ruling_on todays_shares p line (memo_of s.numbers e.line) ledger e s.memory).deed ≡ leave) → (call_of s e).state ≡ s
  unfolding upload_of
  ignored_leaves v u = by_tests (λ c. c.state ≡ s) refl refl refl
      (λ h w f. left_as_it_was (v f).0 h w (left_unchanged todays_shares line ledger e s.memory (v f).0 (v f).1))
      (λ h w p f. upload_as_it_was h w p f (ruled p).answer
      (ap (λ (x : Deed). uploaded (ruling x (ruled p).answer) p line (memo_of s.numbers e.line) ledger e s.memory) (u p f)))
    where
      ruled : Patient → Ruling
      ruled p = ruling_on todays_shares p line (memo_of s.numbers e.line) ledger e s.memory

-- a refused taking: 40, 41, 43, 44 and 45
pub taking_leaves : (ns : List ℕ) (i : ℕ) (s : TakeState) {r : Answered} {t : TakeState} → TakenBy ns i s r t → is_refusal r.number ≡ true → t ≡ s
unfolding take_of
taking_leaves ns i s {r} {t} x h =
    let g = gateway_of ns s.counts in
    let a = (take_of g i s.journal s.buffer).handled.answer in
    let n : is_refusal (number_of a) ≡ true = sym (ap (λ (y : Answered). is_refusal y.number) (x.result ∙ taking_answer took.taking.answer)) ∙ h in
    let left = taking_refused g i s.journal s.buffer (refusal_class a n) in
    let counts = by_line_law (ap (λ (y : AfterTake). y.handled.gateway.ledger) left) (ltb i lines) refl in
    x.state ∙ (λ z. record { counts = counts z; journal = (left z).journal; buffer = (left z).buffer })
  where
    took : AfterTaking
    took = take_entry (ledger_of ns s.counts) i s.journal s.buffer

    by_line_law : took.taking.ledger ≡ ledger_of ns s.counts → (b : Bool) → ltb i lines ≡ b → unless b s.counts (with_used s.counts i took.taking.ledger) ≡ s.counts
    by_line_law d true q = ap (with_used s.counts i) d ∙ used_back ns s.counts i (ltb-true i lines q)
    by_line_law d false q = refl

-- What an event on a line of frames comes to: at an intact state it passes, or the text that it completes is stored, crowded out, or no message.
-- Assumes nothing.
use Rattle.std.specs.Option.{is_some}
use Rattle.std.specs.Prelude.{Err, None, Ok, Some}
use Rattle.journal.specs.declared.Refusal.TheVariants.{NoRoom}
use mathlib.Core.Path.{◌≡◌, refl, sym, ap, subst, ◌∙◌}
use mathlib.Core.Bool.{Bool, true, false, cond}
use mathlib.Core.List.{List}
use Prim.Native.Nat.{ℕ, ◌<◌}
use lib.ListN.{length}
use Rattle.memory.specs.Sizes.{lines}
use Rattle.memory.proofs.Tests.{clash}
use Rattle.faults.specs.Message.{is_message}
use Rattle.faults.proofs.Messages.{message_some, message_short}
use Rattle.settings.specs.declared.Dialogue.TheVariants.{Frames}
use Rattle.gateway.specs.Events.{dialogue_at}
use Rattle.room.specs.Room.{todays_shares}
use Rattle.journal_laws.specs.Runs.{State as Store}
use Rattle.journal.proofs.Judged.{judged_room}
use Rattle.answers.specs.Paper.{number_of}
use Rattle.line.specs.declared.Line.{Line}
use Rattle.answers.specs.declared.Answer.TheVariants.{NoRoom}
use Rattle.looking.specs.Views.{joined_text}
use Rattle.looking.specs.Looks.{look_of}
use Rattle.deciding.specs.Decisions.{objection_to, room_outcome}
use Rattle.receiving.specs.Verdicts.{outcome_verdict, decided, own_work}
use Rattle.looking.specs.declared.Kind.{Kind}
use Rattle.looking.specs.declared.Look.{Look}
use Rattle.looking.specs.declared.Look.TheVariants.{Done, Decides}
use Rattle.looking.specs.declared.Verdict.{Verdict}
use Rattle.looking.specs.Verdicts.{Stores, Against}
use Rattle.looking.proofs.Views.{own_parts}
use Rattle.looking.proofs.Cases.{Cases, every_look}
use Rattle.looking.proofs.Fits.{LookFits, look_fits}
use Rattle.receiving.proofs.Fits.{quiet_keeps}
use Rattle.deciding.proofs.Decisions.{is_objection_law, is_room}
use Rattle.gateway_laws.specs.Classes.{class_of}
use Rattle.gateway_laws.proofs.Proper.{parcel_sends, objection_against}
use Rattle.promises.specs.Machine.{State, Response, step, is_decision, decides, Parts, parts_of, store_of, came}
use Rattle.promises.specs.Inner.ByParts.{left, on_frames, on_event}
use Rattle.promises.specs.Runs.{answered, is_damage, offered, offered_by, has_space}
use Rattle.promises.specs.Sending.{Intact}
use Rattle.promises.specs.Inner.Came.{Passes, Settles, Came, quiet, stored, crowded, against}
use Rattle.promises.proofs.Parts.{on_frames_law}
use Rattle.promises.proofs.Findings.{offered_look}
use Rattle.promises.proofs.Framed.{work, ready, framed_answer, framed_journal}

-- a look that is done decides nothing and speaks of no damage: only a text that is complete is decided
abbrev Harmless : Look → Type 0
Harmless (Done v) = (is_damage (number_of v.answer) ≡ false) × (is_decision (class_of v.answer) ≡ false)
Harmless (Decides n) = Unit {0}

harmless : (l : Line) → Cases Harmless l
harmless l = record {
  ignored = (refl, refl);
  busy = (refl, refl);
  opens = (refl, refl);
  ended = (refl, refl);
  dropped = (refl, refl);
  timed_out = (refl, refl);
  begins = (refl, refl);
  counts = λ n h. (refl, refl);
  collects = λ h. (refl, refl);
  unended = (refl, refl);
  torn = (refl, refl);
  unchecked = (refl, refl);
  foreign = (refl, refl);
  unnumbered = (refl, refl);
  refused = (refl, refl);
  repeated = (refl, refl);
  missed = (refl, refl);
  overlong = (refl, refl);
  no_cr = (refl, refl);
  accepts = λ n t. (refl, refl);
  decides = λ n t. tt;
  sends = λ t e. record { stays = (refl, refl); awaits = λ n h. (refl, refl); goes = λ s n h k. (refl, ap is_decision (parcel_sends s)); over = (refl, refl); given_up = (refl, refl) };
}

module _ (s : State) (w : Intact s) (i : ℕ) (k : Kind) (line : i < lines) (speaks : dialogue_at s.gateway i ≡ Frames) where
  abbrev own : Parts
  own = parts_of s i

  abbrev look : Look
  look = look_of own.line k own.texts own.frames

  -- what a look comes to at any store
  abbrev verdict : Look → Store → Verdict
  verdict x j = decided x todays_shares own.line j.ledger i j.journal own.texts own.frames

  -- the answer and the store, once the verdict is known
  module _ (v : Verdict) (is : work s w i k line speaks ≡ v) where
    told_is : (step s (came i k)).0 ≡ (left v i own k (store_of s)).0
    told_is = framed_answer s w i k line speaks ∙ ap (λ (x : Verdict). (left x i own k (store_of s)).0) is

    store_is : store_of (step s (came i k)).1 ≡ (left v i own k (store_of s)).2
    store_is = framed_journal s w i k line speaks ∙ ap (λ (x : Verdict). (left x i own k (store_of s)).2) is

  work_is : (x : Look) → look ≡ x → work s w i k line speaks ≡ verdict x (store_of s)
  unfolding own_work
  work_is x is = ap (λ (y : Look). verdict y (store_of s)) is

  -- ---- nothing is complete

  module _ (v : Verdict) (is : look ≡ Done v) (fits : LookFits (Done v) own.line) (plain : Harmless (Done v)) where
    same_store : (j : Store) → (left v i own k j).2 ≡ j
    same_store j =
        let (ledger, journal) = quiet_keeps v.act j.ledger i (λ n. joined_text own.line n own.texts own.frames) j.journal fits.1 in
        λ z. record { ledger = ledger z; journal = journal z }

    same_frames : (j : Store) → on_frames i own k j ≡ ((on_frames i own k (store_of s)).0, (on_frames i own k (store_of s)).1, j)
    unfolding own_work
    same_frames j =
        subst (λ (x : Look). left (verdict x j) i own k j ≡ ((left (verdict x (store_of s)) i own k (store_of s)).0, (left (verdict x (store_of s)) i own k (store_of s)).1, j)) (sym is)
        (λ z. ((left v i own k j).0, (left v i own k j).1, (same_store j) z))

    goes_same : (j : Store) → on_event i own k j ≡ ((on_event i own k (store_of s)).0, (on_event i own k (store_of s)).1, j)
    goes_same j =
        on_frames_law own i k j speaks ∙ same_frames j
        ∙ sym (ap (λ (r : Response × Parts × Store). (r.0, r.1, j)) (on_frames_law own i k (store_of s) speaks))

    passes : Passes s i k
    passes = record {
      no_text = offered_look s i k speaks ∙ ap (offered_by s i) is;
      undecided = ap decides (told_is v (work_is (Done v) is)) ∙ plain.1;
      no_damage = ap (λ (t : Response). is_damage (answered t)) (told_is v (work_is (Done v) is)) ∙ plain.0;
      kept = store_is v (work_is (Done v) is) ∙ same_store (store_of s);
      anywhere = λ j. goes_same j;
    }

  -- ---- a text is complete: the records, then the journal

  module _ (n : ℕ) (is : look ≡ Decides n) where
    abbrev text : List ℕ
    text = joined_text own.line n own.texts own.frames

    settles : (v : Verdict) → work s w i k line speaks ≡ v → is_decision (class_of v.answer) ≡ true → (Such : ℕ → Type 0) → Such (number_of v.answer)
        → Settles s i k text Such (left v i own k (store_of s)).2
    settles v of d Such such = record {
      complete = offered_look s i k speaks ∙ ap (offered_by s i) is;
      decided = ap decides (told_is v of) ∙ d;
      number = subst (λ (t : Response). Such (answered t)) (sym (told_is v of)) such;
      left = store_is v of;
    }

    no_message : is_message text ≡ false → work s w i k line speaks ≡ Against (objection_to text) n
    no_message m = work_is (Decides n) is ∙ rw (is_objection_law todays_shares s.gateway.ledger i text s.memory.journal m)

    module _ (m : is_message text ≡ true) where
      judged : (room : Bool) → has_space s i (length text) ≡ room → work s w i k line speaks ≡ outcome_verdict (room_outcome (cond room (Ok tt) (Err NoRoom))) n
      judged room has =
          let d = s.gateway.ledger in
          work_is (Decides n) is
          ∙ rw (is_room todays_shares d i text s.memory.journal m, ← (judged_room d todays_shares i (length text) s.memory.journal line w.journal (message_some _ text m) (message_short _ text m) room (ap is_some w.whole) has))

      by_space : (room : Bool) → has_space s i (length text) ≡ room → Came s i k
      by_space true has = stored text m has (settles (Stores n) (judged true has) refl (λ c. c ≡ 4) refl)
      by_space false has = crowded text m has (settles (Against NoRoom n) (judged false has) refl (λ c. c ≡ 31) refl)

    by_message : (b : Bool) → is_message text ≡ b → Came s i k
    by_message true m = by_space m (has_space s i (length text)) refl
    by_message false m = against text m (settles (Against (objection_to text) n) (no_message m) (ap is_decision (objection_against text)) (λ c. c ≡ number_of (objection_to text)) refl)

  by_look : (x : Look) → look ≡ x → LookFits x own.line → Harmless x → Came s i k
  by_look (Done v) is fits plain = quiet (passes v is fits plain)
  by_look (Decides n) is fits plain = by_message n is (is_message (text n is)) refl

  pub frames_come : Came s i k
  frames_come =
      let parts = own_parts own.line i s.memory.unfinished s.memory.frames (ready s w i k line speaks) in
      by_look look refl (look_fits own.line own.texts own.frames parts k) (every_look Harmless own.line (harmless own.line) own.texts own.frames parts k)

  -- what is no message is answered by what is wrong with it
  pub frames_objected : (t : List ℕ) → offered s i k ≡ Some t → is_message t ≡ false → (step s (came i k)).0.answer ≡ objection_to t
  frames_objected t complete m = by_look_at look refl
    where
      by_look_at : (x : Look) → look ≡ x → (step s (came i k)).0.answer ≡ objection_to t
      by_look_at (Done v) is = let z : None ≡ Some t = sym (offered_look s i k speaks ∙ ap (offered_by s i) is) ∙ complete in clash cc
      by_look_at (Decides n) is =
          let z : Some (text n is) ≡ Some t = sym (offered_look s i k speaks ∙ ap (offered_by s i) is) ∙ complete in
          let same : text n is ≡ t = cc z in
          ap (λ (r : Response). r.answer) (told_is (Against (objection_to (text n is)) n) (no_message n is (ap is_message same ∙ m))) ∙ ap objection_to same

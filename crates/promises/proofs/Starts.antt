-- The start of a sending at an intact state, and so at every state of a run: it is told by its line's parts alone, it decides nothing, and what is not answered 9 changes nothing.
-- Assumes nothing.
use Rattle.std.specs.Prelude.{Err, Ok, Result}
use Rattle.faults.specs.declared.Flaw.TheVariants.{Faulty, NotText}
use Rattle.faults.specs.declared.Flaw.{Flaw}
use mathlib.Core.Path.{◌≡◌, refl, sym, ap, ap₂, subst, ◌∙◌}
use mathlib.Core.Logic.{◌≢◌}
use mathlib.Core.Bool.{Bool, true, false, not}
use mathlib.Core.List.{List}
use Prim.Native.Nat.{ℕ, ◌+◌, ◌≤◌, ◌<◌}
use native.Mathlib.Omega.{arith}
use borrow.Author.Tests.{lt-ltb}
use lib.Dec.{eqb}
use lib.ListN.{length, length-set}
use lib.Seq.{get_or-set_other, get_or-set_same, set-get_or}
use Rattle.memory.specs.Sizes.{lines, message_limit, journal_size, unfinished_size, frames_size}
use Rattle.memory.specs.Parts.{splice}
use Rattle.memory.specs.Tests.{all, unless}
use Rattle.memory.proofs.Parts.{length_part, part_around, part_splice, length_splice}
use Rattle.memory.proofs.Lines.{part_elsewhere}
use Rattle.memory.proofs.Tests.{clash, and_right}
use Rattle.characters.specs.Allowed.{allowed}
use Rattle.faults.specs.Message.{is_message}
use Rattle.faults.specs.Faults.{fault_of}
use Rattle.faults.proofs.Messages.{message_short, message_allowed}
use Rattle.answers.specs.Paper.{is_faulty, number_of}
use Rattle.answers.specs.declared.Answer.{Answer}
use Rattle.answers.specs.declared.Answer.TheVariants.{Unsendable, NotNeutral}
use Rattle.answers.proofs.Paper.{fault_number_law, fault_other, every_but}
use Rattle.room.specs.Room.{todays_shares}
use Rattle.journal_laws.specs.Held.{Held}
use Rattle.journal_laws.specs.Runs.{State as Store}
use Rattle.settings.specs.Settings.{block_limit, by_dialogue, speaks_frames}
use Rattle.settings.specs.declared.Settings.{Settings}
use Rattle.settings.specs.declared.Dialogue.{Dialogue}
use Rattle.settings.specs.declared.Dialogue.TheVariants.{Frames, Blocks}
use Rattle.line.specs.Line.{record_within}
use Rattle.line.proofs.Limits.{within_facts, within_of, asked_within}
use Rattle.looking.specs.Views.{text_start, texts_of}
use Rattle.orders.specs.Starts.{is_neutral, can_start, text_look, start_look, start_answer, line_started, texts_started}
use Rattle.orders.proofs.Looks.{message_asks, Passed, asks_passed}
use Rattle.gateway.specs.Events.{no_record, AfterEvent, started_with, start_in, start_of}
use Rattle.gateway_laws.specs.Classes.{class_of}
use Rattle.promises.specs.Machine.{State, left_by, step, is_decision, decides, Parts, parts_of, told, store_of, Sound, starting}
use Rattle.promises.specs.Inner.ByParts.{own_started, parts_started, on_start}
use Rattle.promises.specs.Runs.{answered, is_damage}
use Rattle.promises.specs.Sending.{Intact}
use Rattle.promises.specs.Clean.{unfinished_in, Clean}
use Rattle.promises.specs.Exactly.{Exactly}
use Rattle.promises.proofs.Parts.{same_parts, frames_within, within_frames}
use Rattle.promises.proofs.Sound.{sound_intact, each_line, Shaped, shaped_sound}

-- ---- the answers

-- what holds of the answer, whatever a start comes to past 40 to 42: only one that asks is answered 9
pub record Mild (x : Result (Unit {0}) Answer) : Type 0 where
  pub undecided : is_decision (class_of (start_answer x)) ≡ false
  pub no_damage : is_damage (number_of (start_answer x)) ≡ false
  pub not_30 : eqb (number_of (start_answer x)) 30 ≡ false
  pub sends : number_of (start_answer x) ≡ 9 → x ≡ Ok tt

abbrev plain : Answer → Bool
plain a = not (is_faulty (number_of a))

text_mild : (x : Result (Unit {0}) Flaw) → Mild (text_look x)
text_mild (Ok tt) = record { undecided = refl; no_damage = refl; not_30 = refl; sends = λ e. refl }
text_mild (Err NotText) = record { undecided = refl; no_damage = refl; not_30 = refl; sends = λ e. absurd (omega (arith, e)) }
text_mild (Err (Faulty f place)) = record {
  undecided = refl;
  no_damage = every_but plain (λ a. is_damage (number_of a)) (λ vs. refl) (Unsendable f place) (ap not (fault_number_law f));
  not_30 = every_but plain (λ a. eqb (number_of a) 30) (λ vs. refl) (Unsendable f place) (ap not (fault_number_law f));
  sends = λ e. absurd (fault_other f 9 refl e);
}

-- what a line speaks, where the test says frames
speaks_frames_law : (t : Settings) → speaks_frames t ≡ true → t.dialogue ≡ Frames
speaks_frames_law t e = by_dialogue_law t.dialogue e
  where
    by_dialogue_law : (d : Dialogue) → by_dialogue d true (λ p. false) ≡ true → d ≡ Frames
    by_dialogue_law Frames q = refl
    by_dialogue_law (Blocks p) q = clash cc

module _ (s : State) (w : Intact s) (i : ℕ) (text : List ℕ) (h : i < lines) where
  abbrev own : Parts
  own = parts_of s i

  -- what it comes to: 60, or what the text comes to
  abbrev pub start : Result (Unit {0}) Answer
  start = start_look i (record_within own.line) (can_start own.line) text journal_size unfinished_size frames_size

  start_looks : start ≡ unless (can_start own.line) (Err NotNeutral) (text_look (fault_of text))
  unfolding start_look
  start_looks = rw (lt-ltb i lines h, w.within i h)

  pub start_mild : Mild start
  start_mild = subst Mild (sym start_looks) (by_state (can_start own.line))
    where
      by_state : (b : Bool) → Mild (unless b (Err NotNeutral) (text_look (fault_of text)))
      by_state true = text_mild (fault_of text)
      by_state false = record { undecided = refl; no_damage = refl; not_30 = refl; sends = λ e. absurd (omega (arith, e)) }

  -- a message on a neutral line of frames is sent; where one is sent, all tests have passed
  pub message_starts : can_start own.line ≡ true → is_message text ≡ true → start ≡ Ok tt
  message_starts n m = start_looks ∙ rw (n, message_asks text m)

  pub start_passed : start ≡ Ok tt → Passed i (record_within own.line) (can_start own.line) text journal_size unfinished_size frames_size
  start_passed = asks_passed i (record_within own.line) (can_start own.line) text journal_size unfinished_size frames_size

  -- and so the line speaks frames
  pub starts_frames : start ≡ Ok tt → own.line.settings.dialogue ≡ Frames
  starts_frames e = speaks_frames_law own.line.settings (and_right (is_neutral own.line.state) (speaks_frames own.line.settings) (start_passed e).free)

  -- ---- what is left

  start_is : start_of s.gateway i text s.memory ≡ started_with start s.gateway i text s.memory
  unfolding start_of
  start_is = rw (w.journal, w.texts, w.frames)

  -- the store is left
  pub start_store : store_of (step s (starting i text)).1 ≡ store_of s
  unfolding start_of
  start_store = refl

  -- the text goes to the line's own part, which holds it
  short : start ≡ Ok tt → 0 + length text ≤ message_limit
  short e = omega (arith, message_short _ text (start_passed e).message)

  from_start : text_start i ≡ text_start i + 0
  from_start = omega arith

  own_texts_law : (x : Result (Unit {0}) Answer) → start ≡ x → texts_of i (texts_started x i text s.memory.unfinished) ≡ own_started x text own.texts
  own_texts_law (Ok tt) e =
      ap (λ (at : ℕ). texts_of i (splice s.memory.unfinished at text)) from_start
      ∙ part_around s.memory.unfinished (text_start i) message_limit 0 text (omega (arith, w.texts)) (short e)
  own_texts_law (Err a) e = refl

  pub start_own : parts_of (step s (starting i text)).1 i ≡ (on_start i own text (store_of s)).1
  start_own =
      let records = get_or-set_same s.gateway.lines i (line_started start own.line text) no_record (omega (arith, w.as_many)) in
      ap (λ (x : AfterEvent). parts_of (left_by x) i) start_is ∙ same_parts _ _ records (own_texts_law start refl) refl refl

  pub start_answer_law : (step s (starting i text)).0 ≡ (on_start i own text (store_of s)).0
  start_answer_law = ap₂ told (ap (λ (x : AfterEvent). x.handled.answer) start_is) start_own

  -- every other line has what it had
  other_texts : (l : ℕ) → l ≢ i → (x : Result (Unit {0}) Answer) → start ≡ x → texts_of l (texts_started x i text s.memory.unfinished) ≡ texts_of l s.memory.unfinished
  other_texts l n (Ok tt) e =
      ap (λ (at : ℕ). texts_of l (splice s.memory.unfinished at text)) from_start
      ∙ part_elsewhere message_limit s.memory.unfinished i l 0 text (λ q. n (sym q)) (omega (arith, w.texts)) (short e)
  other_texts l n (Err a) e = refl

  pub start_others : (l : ℕ) → l ≢ i → parts_of (step s (starting i text)).1 l ≡ parts_of s l
  start_others l n =
      let records = get_or-set_other s.gateway.lines i l (line_started start own.line text) no_record n in
      ap (λ (x : AfterEvent). parts_of (left_by x) l) start_is ∙ same_parts _ _ records (other_texts l n start refl) refl refl

  -- it decides nothing
  pub start_undecided : decides (step s (starting i text)).0 ≡ false
  start_undecided = ap decides start_answer_law ∙ start_mild.undecided

  -- it is answered 9 where it asks, and nowhere else
  pub start_sends : answered (step s (starting i text)).0 ≡ 9 → start ≡ Ok tt
  start_sends e = start_mild.sends (sym (ap answered start_answer_law) ∙ e)

  -- where the line cannot start, it is answered 60
  pub start_busy : can_start own.line ≡ false → answered (step s (starting i text)).0 ≡ 60
  start_busy n =
      let busy : start ≡ Err NotNeutral = start_looks ∙ rw n in
      ap answered start_answer_law ∙ ap (λ (x : Result (Unit {0}) Answer). number_of (start_answer x)) busy

  -- that is: where the line is neutral and speaks frames, and the text is a message
  pub start_exactly : Exactly (answered (step s (starting i text)).0 ≡ 9) ((can_start own.line ≡ true) × (is_message text ≡ true))
  start_exactly = (
    λ e. let x = start_passed (start_sends e) in (x.free, x.message),
    λ e. ap answered start_answer_law ∙ ap (λ (x : Result (Unit {0}) Answer). number_of (start_answer x)) (message_starts e.0 e.1),
  )

  -- and then the line's text is the message
  pub asks_own : start ≡ Ok tt → parts_of (step s (starting i text)).1 i ≡ parts_started (Ok tt) own text
  asks_own e = start_own ∙ ap (λ (x : Result (Unit {0}) Answer). parts_started x own text) e

  pub asks_text : start ≡ Ok tt → unfinished_in (parts_started (Ok tt) own text) ≡ text
  asks_text e = part_splice own.texts 0 text (omega (arith, short e, length_part s.memory.unfinished (text_start i) message_limit (omega (arith, w.texts))))

  -- ---- a state stays sound, and its unfinished texts stay of allowed bytes

  own_within : (x : Result (Unit {0}) Answer) → start ≡ x → record_within (line_started x own.line text) ≡ true
  own_within (Ok tt) e =
      let speaks = starts_frames e in
      let within = within_facts own.line (frames_within own.line speaks (w.within i h)) in
      within_frames (line_started (Ok tt) own.line text) speaks (within_of (line_started (Ok tt) own.line text) (asked_within own.line within (length text) (omega (arith, short e))))
  own_within (Err a) e = w.within i h

  texts_long : (x : Result (Unit {0}) Answer) → start ≡ x → length (texts_started x i text s.memory.unfinished) ≡ length s.memory.unfinished
  texts_long (Ok tt) e = length_splice s.memory.unfinished (text_start i) text (omega (arith, short e, w.texts))
  texts_long (Err a) e = refl

  abbrev IsClean : Parts → Type 0
  IsClean p = all allowed (unfinished_in p) ≡ true

  own_clean : IsClean own → (x : Result (Unit {0}) Answer) → start ≡ x → IsClean (parts_started x own text)
  own_clean c (Ok tt) e = ap (all allowed) (asks_text e) ∙ message_allowed _ text (start_passed e).message
  own_clean c (Err a) e = c

  pub start_clean : Clean s → Clean (step s (starting i text)).1
  start_clean c = each_line IsClean s (step s (starting i text)).1 i _ start_own start_others (own_clean (c i h) start refl) c

  pub start_shaped : Shaped (step s (starting i text)).1
  start_shaped = record {
    as_many = ap (λ (x : AfterEvent). length x.handled.gateway.lines) start_is ∙ length-set s.gateway.lines i (line_started start own.line text) ∙ w.as_many;
    as_many_memos = ap (λ (x : AfterEvent). length x.handled.gateway.memos) start_is ∙ w.as_many_memos;
    within = each_line (λ p. record_within p.line ≡ true) s (step s (starting i text)).1 i _ start_own start_others (own_within start refl) w.within;
    blocks = each_line (λ p. length p.memo.block ≡ block_limit) s (step s (starting i text)).1 i _ start_own start_others (w.blocks i h) w.blocks;
    texts = ap (λ (x : AfterEvent). length x.memory.unfinished) start_is ∙ texts_long start refl ∙ w.texts;
    frames = ap (λ (x : AfterEvent). length x.memory.frames) start_is ∙ w.frames;
  }

pub start_sound : (s : State) (w : Sound s) (i : ℕ) (text : List ℕ) → i < lines → Sound (step s (starting i text)).1
start_sound s w i text h =
    let v = sound_intact s w in
    shaped_sound (step s (starting i text)).1 (start_shaped s v i text h) w.entries
    (subst (λ (j : Store). Held todays_shares j.ledger j.journal w.entries) (sym (start_store s v i text h)) w.held)

-- what is not answered 9 leaves everything as it was, in whatever state
pub start_refused : (s : State) (i : ℕ) (text : List ℕ) → answered (step s (starting i text)).0 ≢ 9 → (step s (starting i text)).1 ≡ s
unfolding start_of
start_refused s i text n = by_start (start_in s.gateway i text s.memory) n
  where
    by_start : (x : Result (Unit {0}) Answer) → number_of (start_answer x) ≢ 9 → left_by (started_with x s.gateway i text s.memory) ≡ s
    by_start (Ok tt) n = absurd (n refl)
    by_start (Err a) n =
        let same = set-get_or s.gateway.lines i no_record in
        λ z. record { gateway = record { lines = same z; memos = s.gateway.memos; ledger = s.gateway.ledger }; memory = s.memory }

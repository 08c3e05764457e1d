-- A host that calls with plain numbers has the gateway: each call does to the gateway that its numbers stand for what the gateway's definition does.
-- Assumes nothing.
use Rattle.std.specs.Prelude.{Err, Ok, Result, ℕ}
use Rattle.journal.specs.declared.NotTaken.{NotTaken}
use mathlib.Core.Path.{◌≡◌, refl, sym, ap, subst, ◌∙◌}
use mathlib.Core.Bool.{Bool, true, false}
use mathlib.Core.List.{List}
use Prim.Native.Nat.{ℕ, ◌+◌, ◌≤◌, ◌<◌}
use native.Mathlib.Decide.{ℕ_discrete}
use native.Mathlib.Omega.{arith}
use borrow.Author.Tests.{lt-ltb, ltb-true, eqb-true}
use lib.Dec.{eqb, ltb}
use lib.ListN.{length, length-append, length-take}
use Rattle.memory.specs.Sizes.{lines}
use Rattle.memory.specs.Parts.{part}
use Rattle.memory.specs.Tests.{unless}
use Rattle.memory.proofs.Parts.{length_splice}
use Rattle.memory.proofs.Tests.{clash, and_right}
use Rattle.settings.specs.Settings.{results_length, block_limit, by_dialogue}
use Rattle.settings.specs.declared.Patient.{Patient}
use Rattle.settings.specs.declared.Patient.TheVariants.{Ten, Thirteen}
use Rattle.settings.specs.declared.Dialogue.{Dialogue}
use Rattle.settings.specs.declared.Dialogue.TheVariants.{Frames, Blocks}
use Rattle.settings.specs.declared.Settings.{Settings}
use Rattle.room.specs.Room.{todays_shares}
use Rattle.journal.specs.Removal.{AfterTaking, take_of as take_entry}
use Rattle.journal.specs.declared.Ledger.{Ledger}
use Rattle.line.specs.Line.{block_within}
use Rattle.line.specs.declared.Line.{Line}
use Rattle.answers.specs.Paper.{reply_of}
use Rattle.answers.specs.declared.Answer.{Answer}
use Rattle.answers.specs.declared.Answer.TheVariants.{WrongSize}
use Rattle.looking.specs.Lent.{right_sizes}
use Rattle.receiving.specs.Verdicts.{verdict_of}
use Rattle.receiving.specs.Steps.{AfterStep, step_of}
use Rattle.strips.specs.Readers.{Memo}
use Rattle.uploads.specs.Uploads.{Deed, leave, add, settle, file, memo_by, block_of, AfterUpload, ruling_on, upload_of}
use Rattle.uploads.specs.Calls.{put_upload}
use Rattle.gateway.specs.Events.{AfterEvent, line_at, memo_at, event_of, take_of, put_back as put_line, put_upload as put_memo}
use Rattle.gateway.specs.Gateway.{Gateway}
use Rattle.taking.specs.Taking.{took_answer}
use Rattle.looking.specs.Views.{frames_of}
use Rattle.looking.specs.declared.Event.{Event}
use Rattle.looking.specs.declared.Kind.{Kind}
use Rattle.looking.specs.declared.Kind.TheVariants.{Byte, Seconds}
use Rattle.gateway_laws.proofs.Laws.{unchanged, left_unchanged, limits_kept}
use Rattle.gateway_laws.proofs.Rulings.{block_facts}
use Rattle.gateway_laws.proofs.Uploads.{upload_limits, upload_settings}
use Rattle.gateway_laws.proofs.Gateways.{act_settings, event_frames, event_blocks}
use Rattle.layout.specs.Layout.{number_at, block_start}
use Rattle.ledger.specs.Ledgers.{ledger_of, with_used}
use Rattle.answers.specs.InNumbers.{in_numbers}
use Rattle.numbers.specs.Plain.{dialogue_of, line_of, reader_fits, block_fits, within_numbers}
use Rattle.keeping.specs.Keeping.{memo_of, with_memo}
use Rattle.keeping.proofs.Blocks.{length_numbers}
use Rattle.calls.specs.Calls.{HostState, AfterCall, refused, put_back, call_of, Calling}
use Rattle.reader.specs.Takings.{TakeState, Taken, taking_in_numbers}
use Rattle.ngachodui_laws.specs.Hosting.{lines_of, memos_of, gateway_of, Ordered}
use Rattle.ngachodui_laws.specs.HostRuns.{InOrder}
use Rattle.ngachodui_laws.specs.Inner.Hosting.{Hosts, answer_in_numbers, HostsTaking}
use Rattle.answers.specs.declared.Answered.{Answered}
use Rattle.ledger.proofs.Ledgers.{used_back}
use Rattle.numbers.proofs.Numbers.{WithinNumbers, numbers_facts, line_within, block_within_law, Speech, speech_is, numbers_back}
use Rattle.ngachodui_laws.proofs.Stores.{stored, stored_length, within_other, within_own, readers_stay, spare_stays}
use Rattle.ngachodui_laws.proofs.Memos.{memo_back, heard, heard_length, heard_within, heard_within_other, heard_fits, heard_spare}
use Rattle.ngachodui_laws.proofs.Touched.{step_touched, upload_touched, taking_lowered}
use Rattle.ngachodui_laws.proofs.PutBack.{line_at_law, memo_at_law, counts_long, used_long, serials_long, gateway_put, heard_put, taking_put}

-- the gateway that the host's numbers stand for, and the step of an event's line
abbrev gateway : HostState → Gateway
gateway s = gateway_of s.numbers s.counts

abbrev pub step_for : HostState → Event → AfterStep
step_for s e = step_of todays_shares (line_of s.numbers e.line) (ledger_of s.numbers s.counts) e s.memory

-- and an event on a reader's line
abbrev pub upload_for : HostState → Patient → Event → AfterUpload
upload_for s p e = upload_of todays_shares p (line_of s.numbers e.line) (memo_of s.numbers e.line) (ledger_of s.numbers s.counts) e s.memory

-- what a step leaves as it was is as it was in the numbers
pub put_unchanged : (s : HostState) (i : ℕ) → i < lines → within_numbers s.numbers i ≡ true → (a : Answer)
    → put_back s i (unchanged (line_of s.numbers i) (ledger_of s.numbers s.counts) s.memory a) ≡ refused a s
put_unchanged s i h w a =
    let p : stored s.numbers i (line_of s.numbers i) (ledger_of s.numbers s.counts) ≡ s.numbers = numbers_back s.numbers s.counts i h w in
    let q : with_used s.counts i (ledger_of s.numbers s.counts) ≡ s.counts = used_back s.numbers s.counts i h in
    λ z. record { answered = in_numbers a; state = record { numbers = p z; counts = q z; memory = s.memory } }

-- nor what an upload leaves
pub upload_put_unchanged : (s : HostState) (i : ℕ) → i < lines → within_numbers s.numbers i ≡ true → reader_fits s.numbers i ≡ true → (a : Answer)
    → put_upload s i (record { step = unchanged (line_of s.numbers i) (ledger_of s.numbers s.counts) s.memory a; memo = memo_of s.numbers i }) ≡ refused a s
upload_put_unchanged s i h w f a =
    let p = ap (λ (x : List ℕ). with_memo x i (memo_of s.numbers i)) (numbers_back s.numbers s.counts i h w) ∙ memo_back s.numbers i f in
    let q : with_used s.counts i (ledger_of s.numbers s.counts) ≡ s.counts = used_back s.numbers s.counts i h in
    λ z. record { answered = in_numbers a; state = record { numbers = p z; counts = q z; memory = s.memory } }

-- what a line speaks, by its numbers: frames, or a reader's blocks, and then what it has is within the limits of those
pub frames_number : (n : ℕ) → dialogue_of n ≡ Frames → n ≡ 0
frames_number n e = by (eqb n 0) refl (eqb n 10) refl
  where
    by : (a : Bool) → eqb n 0 ≡ a → (b : Bool) → eqb n 10 ≡ b → n ≡ 0
    by true p b q = eqb-true n 0 p
    by false p true q = let z : ◌≡◌ {A = Dialogue} (Blocks Ten) Frames = rw (p, q) at e in clash cc
    by false p false q = let z : ◌≡◌ {A = Dialogue} (Blocks Thirteen) Frames = rw (p, q) at e in clash cc

pub record InBlocks (ns : List ℕ) (i : ℕ) (p : Patient) : Type 0 where
  pub within : block_within p (line_of ns i) ≡ true
  pub fits : reader_fits ns i ≡ true

pub blocks_facts : (ns : List ℕ) (i : ℕ) (p : Patient) → within_numbers ns i ≡ true → (line_of ns i).settings.dialogue ≡ Blocks p → InBlocks ns i p
blocks_facts ns i p w e = by_speech (speech_is ns i facts.speech)
  where
    facts : WithinNumbers ns i
    facts = numbers_facts ns i w

    by_speech : Speech ns i → InBlocks ns i p
    by_speech (Speech.in_frames q) = let z : ◌≡◌ {A = Dialogue} Frames (Blocks p) = sym (ap dialogue_of q) ∙ e in clash cc
    by_speech (Speech.in_blocks r t n f) =
        let z : ◌≡◌ {A = Dialogue} (Blocks r) (Blocks p) = sym (ap (λ (x : Settings). x.dialogue) t) ∙ e in
        let same : r ≡ p = cc z in
        record {
          within = ap (λ (x : Patient). block_within x (line_of ns i)) (sym same) ∙ block_within_law ns i r facts f;
          fits = and_right (ltb (number_at ns i 1) (results_length r)) (reader_fits ns i) f;
        }

-- past 40 and 42 an event is the step of its line, where that speaks frames, and else its upload
module _ (s : HostState) (e : Event) (h : e.line < lines) (w : within_numbers s.numbers e.line ≡ true) where
  abbrev right : Bool
  right = right_sizes s.memory.journal s.memory.unfinished s.memory.frames

  abbrev spoken : Dialogue → AfterCall
  spoken x = by_dialogue x (put_back s e.line (step_for s e)) (λ p. put_upload s e.line (upload_for s p e))

  pub call_is : (line_of s.numbers e.line).settings.dialogue ≡ Frames → call_of s e ≡ put_back s e.line (step_for s e)
  unfolding call_of verdict_of
  call_is f = rw (lt-ltb e.line lines h, w) (by_sizes right refl (line_of s.numbers e.line).settings.dialogue f)
    where
      by_sizes : (b : Bool) → right ≡ b → (x : Dialogue) → x ≡ Frames → unless b (refused WrongSize s) (spoken x) ≡ put_back s e.line (step_for s e)
      by_sizes true z x q = ap spoken q
      by_sizes false z x q =
          let left = left_unchanged todays_shares (line_of s.numbers e.line) (ledger_of s.numbers s.counts) e s.memory WrongSize (rw (lt-ltb e.line lines h, z)) in
          sym (ap (put_back s e.line) left ∙ put_unchanged s e.line h w WrongSize)

  -- 41 leaves everything
  upload_left : (p : Patient) → right ≡ false
      → upload_for s p e ≡ record { step = unchanged (line_of s.numbers e.line) (ledger_of s.numbers s.counts) s.memory WrongSize; memo = memo_of s.numbers e.line }
  unfolding upload_of ruling_on
  upload_left p z = rw (lt-ltb e.line lines h, z)

  pub upload_is : (p : Patient) → (line_of s.numbers e.line).settings.dialogue ≡ Blocks p → call_of s e ≡ put_upload s e.line (upload_for s p e)
  unfolding call_of
  upload_is p f = rw (lt-ltb e.line lines h, w) (by_sizes right refl (line_of s.numbers e.line).settings.dialogue f)
    where
      by_sizes : (b : Bool) → right ≡ b → (x : Dialogue) → x ≡ Blocks p → unless b (refused WrongSize s) (spoken x) ≡ put_upload s e.line (upload_for s p e)
      by_sizes true z x q = ap spoken q
      by_sizes false z x q = sym (ap (put_upload s e.line) (upload_left p z) ∙ upload_put_unchanged s e.line h w (blocks_facts s.numbers e.line p w f).fits WrongSize)

-- no step changes what its line speaks
step_settings : (s : HostState) (e : Event) → (step_for s e).stepped.line.settings ≡ (line_of s.numbers e.line).settings
unfolding step_of
step_settings s e = act_settings (verdict_of todays_shares (line_of s.numbers e.line) (ledger_of s.numbers s.counts) e s.memory.journal s.memory.unfinished s.memory.frames).act
    (line_of s.numbers e.line)

-- a block that is kept is none that is too long
longest : (p : Patient) → results_length p ≤ block_limit
longest Ten = omega arith
longest Thirteen = omega arith

block_short : (k : Kind) (l : Line) (frames : List ℕ) → length (block_of k l frames) ≤ l.collected + 1
unfolding part
block_short (Byte b) l frames = simp (length-append, length-take) (omega arith)
block_short (Seconds n) l frames = omega arith

memo_long : (x : Deed) (w : Memo) (bs : List ℕ) → length bs ≤ length w.block → length (memo_by x w bs).block ≡ length w.block
memo_long leave w bs h = refl
memo_long add w bs h = refl
memo_long (settle r) w bs h = refl
memo_long file w bs h = length_splice w.block 0 bs (omega arith)

pub upload_long : (s : HostState) (p : Patient) (e : Event) → block_within p (line_of s.numbers e.line) ≡ true → length (upload_for s p e).memo.block ≡ block_limit
unfolding upload_of
upload_long s p e w =
    let l = line_of s.numbers e.line in
    let full = length_numbers s.numbers (block_start e.line) block_limit in
    let short = block_short e.kind l (frames_of e.line s.memory.frames) in
    memo_long (ruling_on todays_shares p l (memo_of s.numbers e.line) (ledger_of s.numbers s.counts) e s.memory).deed (memo_of s.numbers e.line) (block_of e.kind l (frames_of e.line s.memory.frames)) (omega (arith, full, short, (block_facts p l w).0, longest p)) ∙ full

module _ (s : HostState) (o : InOrder s) (e : Event) where
  abbrev after : AfterEvent
  after = event_of todays_shares (gateway s) e s.memory

  -- 40: both leave everything
  nowhere : ltb e.line lines ≡ false → Hosts (call_of s e) after
  unfolding call_of event_of
  nowhere h = rw h (record { gateway = refl; answer = refl; memory = refl; ordered = o })

  -- else the step of the line, put back here into the numbers and there into the gateway
  module _ (h : e.line < lines) where
    abbrev line : Line
    line = line_of s.numbers e.line

    abbrev ledger : Ledger
    ledger = ledger_of s.numbers s.counts

    line_here : line_at (gateway s) e.line ≡ line
    line_here = line_at_law s.numbers e.line h

    -- on a line of frames
    module _ (speaks : number_at s.numbers e.line 10 ≡ 0) where
      abbrev step : AfterStep
      step = step_for s e

      abbrev put : List ℕ
      put = stored s.numbers e.line step.stepped.line step.stepped.ledger

      event_is : after ≡ put_line (gateway s) e.line step
      event_is =
          event_frames todays_shares (gateway s) e s.memory h (ap (λ (l : Line). l.settings.dialogue) line_here ∙ ap dialogue_of speaks)
          ∙ ap (λ (l : Line). put_line (gateway s) e.line (step_of todays_shares l ledger e s.memory)) line_here

      within_after : (k : ℕ) → k < lines → within_numbers put k ≡ true
      within_after k q = elim (ℕ_discrete k e.line) [
        | yes p ↦ rw p (within_own s.numbers e.line step.stepped.line step.stepped.ledger (omega (arith, o.numbers)) speaks
            (limits_kept todays_shares line ledger e s.memory (line_within s.numbers e.line (o.within e.line h) speaks)))
        | no n ↦ within_other s.numbers e.line step.stepped.line step.stepped.ledger k n ∙ o.within k q
      ]

      by_step : Hosts (put_back s e.line step) (put_line (gateway s) e.line step)
      by_step = record {
        gateway = gateway_put s.numbers s.counts e.line h step.stepped.line step.stepped.ledger o.numbers o.counts
            (step_touched todays_shares line ledger e s.memory h (used_long s.numbers s.counts) (serials_long s.numbers s.counts)) (step_settings s e);
        answer = refl;
        memory = refl;
        ordered = record {
          numbers = stored_length s.numbers e.line step.stepped.line step.stepped.ledger ∙ o.numbers;
          counts = counts_long s.counts e.line step.stepped.ledger ∙ o.counts;
          within = within_after;
          readers = λ k q. readers_stay s.numbers e.line step.stepped.line step.stepped.ledger k ∙ o.readers k q;
          spare = λ k q m p r. spare_stays s.numbers e.line step.stepped.line step.stepped.ledger k m (omega arith) r ∙ o.spare k q m p r;
        };
      }

      in_frames : Hosts (call_of s e) after
      in_frames = subst (λ (x : AfterEvent). Hosts (call_of s e) x) (sym event_is)
          (subst (λ (c : AfterCall). Hosts c (put_line (gateway s) e.line step)) (sym (call_is s e h (o.within e.line h) (ap dialogue_of speaks))) by_step)

    -- on a reader's
    module _ (p : Patient) (speaks : line.settings ≡ record { dialogue = Blocks p }) (fits : block_fits s.numbers e.line (results_length p) ≡ true) where
      abbrev upload : AfterUpload
      upload = upload_for s p e

      abbrev told : Line
      told = upload.step.stepped.line

      abbrev kept : Ledger
      kept = upload.step.stepped.ledger

      abbrev dialogue : line.settings.dialogue ≡ Blocks p
      dialogue = ap (λ (t : Settings). t.dialogue) speaks

      upload_event : after ≡ put_memo (gateway s) e.line upload
      upload_event =
          event_blocks todays_shares (gateway s) e s.memory h p (ap (λ (l : Line). l.settings.dialogue) line_here ∙ dialogue)
          ∙ ap (λ (l : Line). put_memo (gateway s) e.line (upload_of todays_shares p l (memo_at (gateway s) e.line) ledger e s.memory)) line_here
          ∙ ap (λ (w : Memo). put_memo (gateway s) e.line (upload_of todays_shares p line w ledger e s.memory)) (memo_at_law s.numbers e.line h)

      facts : WithinNumbers s.numbers e.line
      facts = numbers_facts s.numbers e.line (o.within e.line h)

      within : block_within p line ≡ true
      within = block_within_law s.numbers e.line p facts fits

      long : length upload.memo.block ≡ block_limit
      long = upload_long s p e within

      upload_within : (k : ℕ) → k < lines → within_numbers (heard s.numbers e.line told kept upload.memo) k ≡ true
      upload_within k q = elim (ℕ_discrete k e.line) [
        | yes n ↦ rw n (heard_within s.numbers e.line told kept upload.memo h o.numbers long p facts.speech dialogue (o.readers e.line h)
            (upload_limits todays_shares p line (memo_of s.numbers e.line) ledger e s.memory within))
        | no n ↦ heard_within_other s.numbers e.line told kept upload.memo h o.numbers long k q n ∙ o.within k q
      ]

      by_upload : Hosts (put_upload s e.line upload) (put_memo (gateway s) e.line upload)
      by_upload = record {
        gateway = heard_put s.numbers s.counts e.line h told kept o.numbers o.counts
            (upload_touched todays_shares p line (memo_of s.numbers e.line) ledger e s.memory h (used_long s.numbers s.counts) (serials_long s.numbers s.counts))
            (upload_settings todays_shares p line (memo_of s.numbers e.line) ledger e s.memory) upload.memo long;
        answer = refl;
        memory = refl;
        ordered = record {
          numbers = heard_length s.numbers e.line told kept upload.memo ∙ o.numbers;
          counts = counts_long s.counts e.line kept ∙ o.counts;
          within = upload_within;
          readers = λ k q. heard_fits s.numbers e.line told kept upload.memo h o.numbers long k q (o.readers k q);
          spare = λ k q m r t. heard_spare s.numbers e.line told kept upload.memo h o.numbers long k m q r t ∙ o.spare k q m r t;
        };
      }

      in_blocks : Hosts (call_of s e) after
      in_blocks = subst (λ (x : AfterEvent). Hosts (call_of s e) x) (sym upload_event)
          (subst (λ (c : AfterCall). Hosts c (put_memo (gateway s) e.line upload)) (sym (upload_is s e h (o.within e.line h) p dialogue)) by_upload)

    there : Hosts (call_of s e) after
    there = by_speech (speech_is s.numbers e.line (numbers_facts s.numbers e.line (o.within e.line h)).speech)
      where
        by_speech : Speech s.numbers e.line → Hosts (call_of s e) after
        by_speech (Speech.in_frames q) = in_frames q
        by_speech (Speech.in_blocks p t n f) = in_blocks p t f

  pub hosts_the_gateway : Hosts (call_of s e) (event_of todays_shares (gateway s) e s.memory)
  hosts_the_gateway = by_line_law (ltb e.line lines) refl
    where
      by_line_law : (b : Bool) → ltb e.line lines ≡ b → Hosts (call_of s e) after
      by_line_law true h = there (ltb-true e.line lines h)
      by_line_law false h = nowhere h

-- so the contract of a byte and of seconds says that the call is the gateway's event
pub call_hosts : (s : HostState) → InOrder s → (e : Event) {r : Answered} {t : HostState} → Calling s e r t
    → Hosts (record { answered = r; state = t }) (event_of todays_shares (gateway_of s.numbers s.counts) e s.memory)
call_hosts s o e {r} {t} c =
    let same : ◌≡◌ {A = AfterCall} (record { answered = r; state = t }) (call_of s e) = λ z. record { answered = c.result z; state = c.state z } in
    subst (λ (x : AfterCall). Hosts x (event_of todays_shares (gateway s) e s.memory)) (sym same) (hosts_the_gateway s o e)

-- an answer to a taking is the gateway's in plain numbers
pub taking_answer : (t : Result (ℕ × ℕ) NotTaken) → taking_in_numbers t ≡ answer_in_numbers (took_answer t)
unfolding in_numbers taking_in_numbers reply_of
taking_answer (Ok (n, serial)) = refl
taking_answer (Err NotTaken.NothingWaiting) = refl
taking_answer (Err NotTaken.BufferShort) = refl
taking_answer (Err NotTaken.Broken) = refl
taking_answer (Err NotTaken.NoLine) = refl
taking_answer (Err NotTaken.WrongSize) = refl

module _ (ns : List ℕ) (s : TakeState) (o : Ordered ns s.counts) (i : ℕ) where
  abbrev taken : AfterTaking
  taken = take_entry (ledger_of ns s.counts) i s.journal s.buffer

  -- the used counts after it: as they were on no line, else put back
  used_after_law : (t : Bool) → ltb i lines ≡ t → ledger_of ns (unless t s.counts (with_used s.counts i taken.taking.ledger)) ≡ taken.taking.ledger
  unfolding take_entry
  used_after_law true h =
      let lowered = taking_lowered (ledger_of ns s.counts) i (ltb-true i lines h) (used_long ns s.counts) s.journal s.buffer in
      taking_put ns s.counts i (ltb-true i lines h) taken.taking.ledger o.counts lowered
  used_after_law false h = rw h

  long_after : (t : Bool) → length (unless t s.counts (with_used s.counts i taken.taking.ledger)) ≡ lines + 1
  long_after true = counts_long s.counts i taken.taking.ledger ∙ o.counts
  long_after false = o.counts

  pub taking_hosts : {r : Answered} {t : TakeState} → Taken ns i s r t → HostsTaking ns t r (take_of (gateway_of ns s.counts) i s.journal s.buffer)
  unfolding take_of
  taking_hosts {r} {t} x =
      let counts = ap (λ (y : TakeState). y.counts) x.state in
      let ledger : ledger_of ns t.counts ≡ taken.taking.ledger = ap (ledger_of ns) counts ∙ used_after_law (ltb i lines) refl in
      record {
        gateway = λ z. record { lines = lines_of ns 0 lines; memos = memos_of ns 0 lines; ledger = ledger z };
        answer = x.result ∙ taking_answer taken.taking.answer;
        journal = ap (λ (y : TakeState). y.journal) x.state;
        buffer = ap (λ (y : TakeState). y.buffer) x.state;
        ordered = record { numbers = o.numbers; counts = ap length counts ∙ long_after (ltb i lines); within = o.within; readers = o.readers; spare = o.spare };
      }

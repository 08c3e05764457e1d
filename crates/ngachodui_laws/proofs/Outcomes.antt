-- The outcome of one call: it is the one that the contracts allow; a refusal and an ignored event leave everything, and no call touches another line.
-- Assumes nothing.
use Rattle.std.specs.Prelude.{Err, Ok, Result}
use mathlib.Core.Path.{◌≡◌, refl, sym, ap, subst, ◌∙◌}
use mathlib.Core.Logic.{◌≢◌}
use mathlib.Core.Bool.{Bool, true, false, cond, not, ◌||◌}
use mathlib.Core.List.{List, [], ◌∷◌}
use Prim.Native.Nat.{ℕ, ◌+◌, ◌<◌}
use native.Mathlib.Omega.{arith}
use lib.Dec.{ltb}
use lib.ListN.{length, get_or, set, replicate}
use lib.Seq.{get_or-set_other}
use Rattle.memory.specs.Sizes.{lines, frame_limit}
use Rattle.memory.specs.Tests.{unless, is}
use Rattle.memory.proofs.Tests.{clash, is_false}
use Rattle.characters.specs.Control.{stx, enq, eot}
use Rattle.settings.specs.Settings.{by_dialogue}
use Rattle.settings.specs.declared.Patient.{Patient}
use Rattle.settings.specs.declared.Dialogue.{Dialogue}
use Rattle.settings.specs.declared.Dialogue.TheVariants.{Frames, Blocks}
use Rattle.room.specs.Room.{todays_shares}
use Rattle.journal.specs.Removal.{take_of as take_entry}
use Rattle.journal.specs.declared.Ledger.{Ledger}
use Rattle.line.specs.Line.{within_limits, block_within, asked_line}
use Rattle.line.specs.declared.Line.{Line}
use Rattle.line.specs.declared.State.{State as LineState}
use Rattle.line.specs.declared.State.TheVariants.{Neutral, Waiting, Inside, Out}
use Rattle.line.specs.declared.Sending.{Sending}
use Rattle.line.specs.declared.Sending.TheVariants.{Asking, Pausing, Offering}
use Rattle.answers.specs.Paper.{number_of}
use Rattle.answers.specs.declared.Answer.{Answer}
use Rattle.answers.specs.declared.Answer.TheVariants.{Nothing, NoLine, WrongSize, BeyondLimits, NotNeutral}
use Rattle.looking.specs.Lent.{right_sizes, right_lengths}
use Rattle.sending.specs.Onward.{byte_onward}
use Rattle.looking.specs.Looks.{neutral_look, waiting_look, onward_look, by_state, byte_look, seconds_look, look_of}
use Rattle.looking.specs.Views.{frames_of, texts_of}
use Rattle.looking.specs.declared.Event.{Event}
use Rattle.looking.specs.declared.Kind.{Kind}
use Rattle.looking.specs.declared.Kind.TheVariants.{Byte, Seconds}
use Rattle.looking.specs.declared.Look.{Look}
use Rattle.looking.specs.declared.Look.TheVariants.{Done}
use Rattle.looking.specs.declared.Verdict.{Verdict}
use Rattle.looking.specs.Verdicts.{Left}
use Rattle.receiving.specs.Verdicts.{decided, own_work, work_of, verdict_of}
use Rattle.receiving.specs.Steps.{Memory, AfterStep}
use Rattle.strips.specs.Readers.{Memo}
use Rattle.strips.specs.Sights.{is_inside, ends_block, sight_of}
use Rattle.strips.specs.declared.Sight.{Sight}
use Rattle.strips.specs.declared.Sight.TheVariants.{Ignores, Adds, Judges}
use Rattle.uploads.specs.Uploads.{leave, Ruling, ruling, block_bytes, judged_block, seen_as, ruling_of, ruling_on}
use Rattle.uploads.specs.Calls.{put_upload}
use Rattle.gateway_laws.proofs.Laws.{parts_of_others}
use Rattle.gateway_laws.proofs.Uploads.{upload_texts, upload_others}
use Rattle.serial.specs.Serial.{event, taking, final, Every}
use Rattle.gateway.specs.Out.{sends}
use Rattle.orders.specs.Starts.{can_start, start_look, start_answer}
use Rattle.orders.proofs.OneOutcome.{send_once}
use Rattle.answers.specs.InNumbers.{in_numbers}
use Rattle.promises.specs.Machine.{GatewayItem, happens, starts, came, starting, on_line}
use Rattle.layout.specs.Layout.{frames, speaks_at, number_at, started_numbers, Fresh, can_start as can_begin, Started}
use Rattle.ledger.specs.Ledgers.{ledger_of, with_used}
use Rattle.numbers.specs.Plain.{line_of, within_numbers}
use Rattle.keeping.specs.Keeping.{kept_block, memo_of}
use Rattle.calls.specs.Calls.{HostState, put_back}
use Rattle.reader.specs.Takings.{TakeState, taking_of}
use Rattle.calls.proofs.OneOutcome.{call_once}
use Rattle.reader.proofs.OneOutcome.{take_once}
use Rattle.ngachodui_laws.specs.Hosting.{is_refusal}
use Rattle.ngachodui_laws.specs.HostRuns.{fresh_host, HostResponse, lent_of, start_from, started_by, sent_by, host_step, number_to, after}
use Rattle.ngachodui_laws.specs.Outcomes.{StartedAs, Allows, ignored_in_frames, ignored_in_blocks, ignores, line_in, LineKept}
use Rattle.ngachodui_laws.proofs.Stores.{stored, number_other, spare_stays, memo_stays}
use Rattle.ngachodui_laws.proofs.Memos.{kept_other, block_other, record_kept}
use Rattle.ngachodui_laws.proofs.Hosts.{step_for, upload_for, frames_number, blocks_facts, upload_long}
use Rattle.ngachodui_laws.proofs.Starts.{starts_frames, host_passed, put_line_is, texts_elsewhere}
use Rattle.ngachodui_laws.proofs.Refusals.{by_tests, refusal_leaves, ignored_leaves, taking_leaves}

-- ---- what the contracts allow

pub one_outcome : (s : HostState) (e : GatewayItem) (r q : HostResponse) (t u : HostState) → Allows s e r t → Allows s e q u → (r ≡ q) × (t ≡ u)
one_outcome s (event i (happens k)) r q t u a b =
    let c = call_once s (on_line i k) a.0 b.0 in
    let out = a.1 ∙ (λ z. sent_by (c.1 z) i (c.0 z)) ∙ sym b.1 in
    (λ z. record { answered = c.0 z; buffer = out z }, c.1)
one_outcome s (event i (starts text)) r q t u a b =
    let c = send_once s.numbers i text s.memory a.sent b.sent in
    let counts = a.counts ∙ sym b.counts in
    let journal = a.journal ∙ sym b.journal in
    let frames = a.frames ∙ sym b.frames in
    let after : t ≡ u = λ z. record { numbers = c.1 z; counts = counts z; memory = record { journal = journal z; unfinished = c.2 z; frames = frames z } } in
    let out = a.out ∙ (λ z. sent_by (after z) i (c.0 z)) ∙ sym b.out in
    (λ z. record { answered = c.0 z; buffer = out z }, after)
one_outcome s (taking i n) r q t u a b =
    let c = take_once s.numbers i (lent_of s n) a.taken b.taken in
    let numbers = a.numbers ∙ sym b.numbers in
    let unfinished = a.unfinished ∙ sym b.unfinished in
    let frames = a.frames ∙ sym b.frames in (
      λ z. record { answered = c.0 z; buffer = (c.1 z).buffer },
      λ z. record { numbers = numbers z; counts = (c.1 z).counts; memory = record { journal = (c.1 z).journal; unfinished = unfinished z; frames = frames z } },
    )

pub the_outcome : (s : HostState) (e : GatewayItem) → Allows s e (host_step s e).0 (host_step s e).1
the_outcome s (event i (happens k)) = (record { result = refl; state = refl }, refl)
the_outcome s (event i (starts text)) = record { sent = record { result = refl; numbers = refl; unfinished = refl }; counts = refl; journal = refl; frames = refl; out = refl }
the_outcome s (taking i b) = record { taken = record { result = refl; state = refl }; numbers = refl; unfinished = refl; frames = refl }

pub fresh_outcome : (m : Memory) (ns us : List ℕ) → Fresh ns us → ◌≡◌ {A = HostState} (record { numbers = ns; counts = us; memory = m }) (fresh_host m)
fresh_outcome m ns us f = λ z. record { numbers = f.numbers z; counts = f.counts z; memory = m }

-- a start with what each line speaks
module _ (ts ns us : List ℕ) (r : ℕ) (ns' us' : List ℕ) (x : Started ts ns us r ns' us') where
  pub started_outcome : can_begin ts ≡ true → (m : Memory) → StartedAs ts m r ns' us'
  started_outcome e m =
      let numbers : ns' ≡ started_numbers ts = x.numbers ∙ ap (λ (b : Bool). unless b ns (started_numbers ts)) e in
      let counts : us' ≡ replicate (lines + 1) 0 = x.counts ∙ ap (λ (b : Bool). unless b us (replicate (lines + 1) 0)) e in
      record { answer = x.answer ∙ ap (λ (b : Bool). cond b 0 42) e; state = λ z. record { numbers = numbers z; counts = counts z; memory = m } }

  pub unstarted_leaves : can_begin ts ≡ false → (r ≡ 42) × (ns' ≡ ns) × (us' ≡ us)
  unstarted_leaves e = (
    x.answer ∙ ap (λ (b : Bool). cond b 0 42) e,
    x.numbers ∙ ap (λ (b : Bool). unless b ns (started_numbers ts)) e,
    x.counts ∙ ap (λ (b : Bool). unless b us (replicate (lines + 1) 0)) e,
  )

-- ---- refusals and ignored events

-- a taking by its contract
taken_leaves : (s : HostState) (i : ℕ) (b : List ℕ) → is_refusal (number_to s (taking i b)) ≡ true → (taking_of s.numbers i (lent_of s b)).state ≡ lent_of s b
taken_leaves s i b h = taking_leaves s.numbers i (lent_of s b) (record { result = refl; state = refl }) h

-- a start that is not answered 9
started_leaves : (s : HostState) (i : ℕ) (text : List ℕ) (x : Result (Unit {0}) Answer) → (started_by x s i text).answered.number ≢ sends → (started_by x s i text).state ≡ s
unfolding in_numbers
started_leaves s i text (Ok tt) n = absurd (n refl)
started_leaves s i text (Err a) n = refl

pub start_leaves : (s : HostState) (i : ℕ) (text : List ℕ) → number_to s (starting i text) ≢ sends → after s (starting i text) ≡ s
start_leaves s i text n = started_leaves s i text (start_from s i text) n

pub refused_leaves : (s : HostState) (e : GatewayItem) → is_refusal (number_to s e) ≡ true → after s e ≡ s
refused_leaves s (event i (happens k)) h = refusal_leaves s (on_line i k) h
refused_leaves s (event i (starts text)) h = start_leaves s i text (λ e. let z : false ≡ true = sym (ap is_refusal e) ∙ h in clash cc)
refused_leaves s (taking i b) h =
    let x = taken_leaves s i b h in
    λ z. record { numbers = s.numbers; counts = (x z).counts; memory = record { journal = (x z).journal; unfinished = s.memory.unfinished; frames = s.memory.frames } }

pub buffer_left : (s : HostState) (i : ℕ) (b : List ℕ) → is_refusal (number_to s (taking i b)) ≡ true → (host_step s (taking i b)).0.buffer ≡ b
buffer_left s i b h = ap (λ (x : TakeState). x.buffer) (taken_leaves s i b h)

-- an ignored event comes to nothing, whatever lies in its line's memory
not_taken : (t : Bool) (x y : Look) → not t ≡ true → cond t x y ≡ y
not_taken true x y h = clash cc
not_taken false x y h = refl

none_taken : (a b c : Bool) (x y z w : Look) → not (a || (b || c)) ≡ true → cond a x (cond b y (cond c z w)) ≡ w
none_taken true b c x y z w h = clash cc
none_taken false true c x y z w h = clash cc
none_taken false false true x y z w h = clash cc
none_taken false false false x y z w h = refl

byte_ignored : (state : LineState) (l : Line) (b : ℕ) (text : List ℕ) (inside : Look) → ignored_in_frames state (Byte b) ≡ true
    → by_state state (neutral_look b) (waiting_look l b) inside (λ s. onward_look (byte_onward frame_limit l s b text)) ≡ Done (Left Nothing)
unfolding neutral_look waiting_look
byte_ignored Neutral l b text inside h = not_taken (is enq b) _ _ h
byte_ignored Waiting l b text inside h = none_taken (is stx b) (is eot b) (is enq b) _ _ _ _ h
byte_ignored Inside l b text inside h = clash cc
byte_ignored (Out (Asking n)) l b text inside h = clash cc
byte_ignored (Out (Pausing n)) l b text inside h = refl
byte_ignored (Out (Offering n at)) l b text inside h = clash cc

seconds_ignored : (state : LineState) (n : ℕ) (x y : Look) (o : Sending → Look) → ignored_in_frames state (Seconds n) ≡ true → by_state state (Done (Left Nothing)) x y o ≡ Done (Left Nothing)
seconds_ignored Neutral n x y o h = refl
seconds_ignored Waiting n x y o h = clash cc
seconds_ignored Inside n x y o h = clash cc
seconds_ignored (Out (Asking m)) n x y o h = clash cc
seconds_ignored (Out (Pausing m)) n x y o h = clash cc
seconds_ignored (Out (Offering m at)) n x y o h = clash cc

look_ignored : (l : Line) (k : Kind) (texts frames : List ℕ) → ignored_in_frames l.state k ≡ true → look_of l k texts frames ≡ Done (Left Nothing)
unfolding byte_look seconds_look
look_ignored l (Byte b) texts _ h = byte_ignored l.state l b _ _ h
look_ignored l (Seconds n) texts _ h = seconds_ignored l.state n _ _ _ h

verdict_ignored : (l : Line) (d : Ledger) (e : Event) (m : Memory) → ignored_in_frames l.state e.kind ≡ true
    → (a : Answer) × (verdict_of todays_shares l d e m.journal m.unfinished m.frames ≡ Left a)
unfolding verdict_of own_work
verdict_ignored l d e m h =
    by (ltb e.line lines) (right_sizes m.journal m.unfinished m.frames) (within_limits l)
  where
    work : Verdict
    work = work_of todays_shares l d e m.journal m.unfinished m.frames

    by : (x y z : Bool) → (a : Answer) × (unless x (Left NoLine) (unless y (Left WrongSize) (unless z (Left BeyondLimits) work)) ≡ Left a)
    by false y z = (NoLine, refl)
    by true false z = (WrongSize, refl)
    by true true false = (BeyondLimits, refl)
    by true true true =
        let texts = texts_of e.line m.unfinished in
        let frames = frames_of e.line m.frames in
        (Nothing, ap (λ (x : Look). decided x todays_shares l d e.line m.journal texts frames) (look_ignored l e.kind texts frames h))

-- on a reader's line
sight_ignored : (p : Patient) (l : Line) (b : ℕ) → not (is_inside l.state || is stx b) ≡ true → sight_of p l b ≡ Ignores
unfolding sight_of
sight_ignored p l b h = by (is_inside l.state || is stx b) h
  where
    by : (x : Bool) → not x ≡ true → unless x Ignores (cond (ends_block p l b) Judges Adds) ≡ Ignores
    by true q = clash cc
    by false q = refl

work_ignored : (p : Patient) (l : Line) (w : Memo) (d : Ledger) (i : ℕ) (k : Kind) (journal frames : List ℕ) → ignored_in_blocks l.state k ≡ true
    → (ruling_of todays_shares p l w d i k journal frames).deed ≡ leave
unfolding ruling_of
work_ignored p l w d i (Byte b) journal f h =
    ap (λ (x : Sight). (seen_as x (judged_block todays_shares p l w d i (block_bytes l b f) journal)).deed) (sight_ignored p l b h)
work_ignored p l w d i (Seconds n) journal _ h = refl

ruling_ignored : (p : Patient) (l : Line) (w : Memo) (d : Ledger) (e : Event) (m : Memory) → ignored_in_blocks l.state e.kind ≡ true
    → (ruling_on todays_shares p l w d e m).deed ≡ leave
unfolding ruling_on
ruling_ignored p l w d e m h =
    by (ltb e.line lines) (right_sizes m.journal m.unfinished m.frames) (block_within p l)
  where
    work : Ruling
    work = ruling_of todays_shares p l w d e.line e.kind m.journal (frames_of e.line m.frames)

    by : (x y z : Bool) → (unless x (ruling leave NoLine) (unless y (ruling leave WrongSize) (unless z (ruling leave BeyondLimits) work))).deed ≡ leave
    by false y z = refl
    by true false z = refl
    by true true false = refl
    by true true true = work_ignored p l w d e.line e.kind m.journal (frames_of e.line m.frames) h

pub ignored_is_left : (s : HostState) (i : ℕ) (k : Kind) → ignores (line_of s.numbers i) k ≡ true → after s (came i k) ≡ s
ignored_is_left s i k h = ignored_leaves s (on_line i k) in_frames in_blocks
  where
    line : Line
    line = line_of s.numbers i

    ledger : Ledger
    ledger = ledger_of s.numbers s.counts

    by : Dialogue → Bool
    by x = by_dialogue x (ignored_in_frames line.state k) (λ p. ignored_in_blocks line.state k)

    in_frames : line.settings.dialogue ≡ Frames → (a : Answer) × (verdict_of todays_shares line ledger (on_line i k) s.memory.journal s.memory.unfinished s.memory.frames ≡ Left a)
    in_frames f = verdict_ignored line ledger (on_line i k) s.memory (sym (ap by f) ∙ h)

    in_blocks : (p : Patient) → line.settings.dialogue ≡ Blocks p → (ruling_on todays_shares p line (memo_of s.numbers i) ledger (on_line i k) s.memory).deed ≡ leave
    in_blocks p f = ruling_ignored p line (memo_of s.numbers i) ledger (on_line i k) s.memory (sym (ap by f) ∙ h)

-- ---- the other lines

used_other : (us : List ℕ) (i l : ℕ) (d : Ledger) → l < lines → l ≢ i → get_or (with_used us i d) l 0 ≡ get_or us l 0
used_other us i l d h n = get_or-set_other (set us i (get_or d.used i 0)) lines l d.in_use 0 (λ q. absurd (omega arith)) ∙ get_or-set_other us i l (get_or d.used i 0) 0 n

nothing_changed : (l : ℕ) (s : HostState) → LineKept l s s
nothing_changed l s = record { numbers = λ m q. refl; block = refl; used = refl; text = refl; frame = refl }

pub others_kept : (s : HostState) (e : GatewayItem) (l : ℕ) → l < lines → l ≢ line_in e → LineKept l s (after s e)
others_kept s (event i (happens k)) l h n =
    by_tests s (on_line i k) (λ c. LineKept l s c.state) (nothing_changed l s) (nothing_changed l s) (nothing_changed l s) stepped uploaded
  where
    line : Line
    line = line_of s.numbers i

    ledger : Ledger
    ledger = ledger_of s.numbers s.counts

    step : AfterStep
    step = step_for s (on_line i k)

    stepped : i < lines → within_numbers s.numbers i ≡ true → line.settings.dialogue ≡ Frames → LineKept l s (put_back s i step).state
    stepped p w f =
        let parts = parts_of_others todays_shares line ledger (on_line i k) s.memory l (λ q. n (sym q)) in
        record {
          numbers = λ m q. number_other s.numbers i step.stepped.line step.stepped.ledger l m n q;
          block = ap (λ (w : Memo). w.block) (memo_stays s.numbers i step.stepped.line step.stepped.ledger p l);
          used = used_other s.counts i l step.stepped.ledger h n;
          text = parts.0;
          frame = parts.1;
        }

    uploaded : i < lines → within_numbers s.numbers i ≡ true → (p : Patient) → line.settings.dialogue ≡ Blocks p → LineKept l s (put_upload s i (upload_for s p (on_line i k))).state
    uploaded g w p f =
        let upload = upload_for s p (on_line i k) in
        let told = upload.step.stepped.line in
        let kept = upload.step.stepped.ledger in
        let put = stored s.numbers i told kept in
        let long = upload_long s p (on_line i k) (blocks_facts s.numbers i p w f).within in
        record {
          numbers = λ m q. kept_other put i upload.memo g l m h n q ∙ number_other s.numbers i told kept l m n q;
          block = block_other put i upload.memo g long l n ∙ ap (λ (w : Memo). w.block) (memo_stays s.numbers i told kept g l);
          used = used_other s.counts i l kept h n;
          text = ap (texts_of l) (upload_texts todays_shares p line (memo_of s.numbers i) ledger (on_line i k) s.memory);
          frame = upload_others todays_shares p line (memo_of s.numbers i) ledger (on_line i k) s.memory l (λ q. n (sym q));
        }
others_kept s (event i (starts text)) l h n =
    by_start (start_from s i text) refl
  where
    by_start : (x : Result (Unit {0}) Answer) → start_from s i text ≡ x → LineKept l s (started_by x s i text).state
    by_start (Err a) e = nothing_changed l s
    by_start (Ok tt) e =
        let x = host_passed s i text e in
        let asked = asked_line (line_of s.numbers i) (length text) in
        let put = put_line_is s i x.line asked in
        record {
          numbers = λ m q. ap (λ (ns : List ℕ). number_at ns l m) put ∙ number_other s.numbers i asked (ledger_of s.numbers s.counts) l m n q;
          block = ap (λ (ns : List ℕ). kept_block ns l) put ∙ ap (λ (w : Memo). w.block) (memo_stays s.numbers i asked (ledger_of s.numbers s.counts) x.line l);
          used = refl;
          text = texts_elsewhere s i text x l n;
          frame = refl;
        }
others_kept s (taking i b) l h n = record { numbers = λ m q. refl; block = refl; used = by_line_law (ltb i lines); text = refl; frame = refl }
  where
    ledger : Ledger
    ledger = (take_entry (ledger_of s.numbers s.counts) i s.memory.journal b).taking.ledger

    by_line_law : (t : Bool) → get_or (unless t s.counts (with_used s.counts i ledger)) l 0 ≡ get_or s.counts l 0
    by_line_law true = used_other s.counts i l ledger h n
    by_line_law false = refl

-- nor do calls of which none names the line
pub run_keeps : (s : HostState) (es : List GatewayItem) (l : ℕ) → l < lines → Every (λ e. l ≢ line_in e) es → LineKept l s (final host_step s es)
run_keeps s [] l h n = nothing_changed l s
run_keeps s (e ∷ es) l h n =
    let one = others_kept s e l h n.0 in
    let more = run_keeps (after s e) es l h n.1 in
    record {
      numbers = λ k q. more.numbers k q ∙ one.numbers k q;
      block = more.block ∙ one.block;
      used = more.used ∙ one.used;
      text = more.text ∙ one.text;
      frame = more.frame ∙ one.frame;
    }

-- ---- what a line speaks

-- no call changes it
pub speaks_kept : (s : HostState) (e : GatewayItem) (l : ℕ) → l < lines → number_at (after s e).numbers l speaks_at ≡ number_at s.numbers l speaks_at
speaks_kept s (event i (happens k)) l h =
    by_tests s (on_line i k) (λ c. number_at c.state.numbers l speaks_at ≡ number_at s.numbers l speaks_at) refl refl refl stepped uploaded
  where
    line : Line
    line = line_of s.numbers i

    stepped : i < lines → within_numbers s.numbers i ≡ true → line.settings.dialogue ≡ Frames
        → number_at (put_back s i (step_for s (on_line i k))).state.numbers l speaks_at ≡ number_at s.numbers l speaks_at
    stepped p w f = spare_stays s.numbers i (step_for s (on_line i k)).stepped.line (step_for s (on_line i k)).stepped.ledger l speaks_at (omega arith) (omega arith)

    uploaded : i < lines → within_numbers s.numbers i ≡ true → (p : Patient) → line.settings.dialogue ≡ Blocks p
        → number_at (put_upload s i (upload_for s p (on_line i k))).state.numbers l speaks_at ≡ number_at s.numbers l speaks_at
    uploaded g w p f =
        let upload = upload_for s p (on_line i k) in
        record_kept (stored s.numbers i upload.step.stepped.line upload.step.stepped.ledger) i upload.memo g l speaks_at h (omega arith)
        ∙ spare_stays s.numbers i upload.step.stepped.line upload.step.stepped.ledger l speaks_at (omega arith) (omega arith)
speaks_kept s (event i (starts text)) l h =
    by_start (start_from s i text) refl
  where
    by_start : (x : Result (Unit {0}) Answer) → start_from s i text ≡ x → number_at (started_by x s i text).state.numbers l speaks_at ≡ number_at s.numbers l speaks_at
    by_start (Err a) e = refl
    by_start (Ok tt) e =
        let asked = asked_line (line_of s.numbers i) (length text) in
        ap (λ (ns : List ℕ). number_at ns l speaks_at) (put_line_is s i (host_passed s i text e).line asked)
        ∙ spare_stays s.numbers i asked (ledger_of s.numbers s.counts) l speaks_at (omega arith) (omega arith)
speaks_kept s (taking i b) l h = refl

-- on a reader's line no event writes an unfinished byte
pub texts_kept : (s : HostState) (i : ℕ) (k : Kind) → number_at s.numbers i speaks_at ≢ frames → (after s (came i k)).memory.unfinished ≡ s.memory.unfinished
texts_kept s i k n =
    by_tests s (on_line i k) (λ c. c.state.memory.unfinished ≡ s.memory.unfinished) refl refl refl
    (λ p w f. absurd (n (frames_number (number_at s.numbers i speaks_at) f)))
    (λ g w p f. upload_texts todays_shares p (line_of s.numbers i) (memo_of s.numbers i) (ledger_of s.numbers s.counts) (on_line i k) s.memory)

-- and nothing is sent: 40, 41, 42 or 60
unsent : (i : ℕ) (within : Bool) (text : List ℕ) (j u f : ℕ) → number_of (start_answer (start_look i within false text j u f)) ≢ sends
unfolding start_look
unsent i within text j u f = by (ltb i lines) (right_lengths j u f) within
  where
    by : (a b c : Bool) → number_of (start_answer (unless a (Err NoLine) (unless b (Err WrongSize) (unless c (Err BeyondLimits) (Err NotNeutral))))) ≢ sends
    by true true true q = absurd (omega (arith, q))
    by true true false q = absurd (omega (arith, q))
    by true false c q = absurd (omega (arith, q))
    by false b c q = absurd (omega (arith, q))

pub no_order : (s : HostState) (i : ℕ) (text : List ℕ) → number_at s.numbers i speaks_at ≢ frames → (number_to s (starting i text) ≢ sends) × (after s (starting i text) ≡ s)
unfolding in_numbers
no_order s i text n =
    let look : Bool → Result (Unit {0}) Answer = λ can. start_look i (within_numbers s.numbers i) can text (length s.memory.journal) (length s.memory.unfinished) (length s.memory.frames) in
    let cannot : can_start (line_of s.numbers i) ≡ false = is_false (can_start (line_of s.numbers i)) (λ t. n (starts_frames s.numbers i t)) in
    let none : number_to s (starting i text) ≢ sends = subst (λ (can : Bool). number_of (start_answer (look can)) ≢ sends) (sym cannot) (unsent i (within_numbers s.numbers i) text _ _ _) in
    (none, start_leaves s i text none)

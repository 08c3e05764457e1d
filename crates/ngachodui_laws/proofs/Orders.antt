-- Work orders, of a host's calls: what the gateway's sendings do, with the host's own answers and numbers.
-- Assumes nothing.
use Rattle.strips.specs.declared.Reply.TheVariants.{Again, More}
use Rattle.strips.specs.declared.Reply.{Reply}
use Rattle.std.specs.Prelude.{Err, None, Ok, Option, Result, Some}
use Rattle.faults.specs.declared.Flaw.TheVariants.{Faulty, NotText}
use Rattle.faults.specs.declared.Flaw.{Flaw}
use mathlib.Core.Path.{◌≡◌, refl, sym, ap, subst, ◌∙◌}
use mathlib.Core.Logic.{◌≢◌}
use mathlib.Core.Bool.{Bool, true, false, cond, not, ◌&&◌, ◌||◌}
use mathlib.Core.List.{List, [], ◌∷◌, ◌++◌, map, append-nil}
use Prim.Native.Nat.{ℕ, zero, suc, ◌+◌, ◌≤◌, ◌<◌}
use native.Mathlib.Nat.{add-zero}
use native.Mathlib.Omega.{arith}
use borrow.Author.Tests.{lt-ltb, eq-eqb, le-leb, eqb-true}
use lib.Dec.{eqb, ltb}
use lib.ListN.{length}
use Rattle.memory.specs.Sizes.{lines, frame_limit, unfinished_size}
use Rattle.memory.specs.Tests.{unless}
use Rattle.memory.proofs.Tests.{clash}
use Rattle.settings.specs.Settings.{by_dialogue}
use Rattle.settings.specs.declared.Patient.{Patient}
use Rattle.settings.specs.declared.Dialogue.{Dialogue}
use Rattle.settings.specs.declared.Dialogue.TheVariants.{Frames, Blocks}
use Rattle.characters.specs.Control.{enq, stx, eot}
use Rattle.pieces.specs.Pieces.{pieces_of}
use Rattle.header.specs.Header.{entry_size}
use Rattle.room.specs.Room.{todays_shares}
use Rattle.journal_laws.specs.Held.{Held}
use Rattle.answers.specs.Paper.{ack, number_of, reply_of, first_out}
use Rattle.answers.specs.InNumbers.{reply_byte, in_numbers}
use Rattle.answers.specs.declared.Answer.{Answer}
use Rattle.answers.specs.declared.Answer.TheVariants.{Ended, NoLine, WrongSize, BeyondLimits, NotNeutral}
use Rattle.answers.proofs.Paper.{every_but}
use Rattle.block.specs.Layouts.{mor, rep}
use Rattle.block.proofs.Controls.{control_long}
use Rattle.journal.specs.declared.Ledger.{Ledger}
use Rattle.faults.specs.Faults.{fault_of}
use Rattle.looking.specs.Lent.{right_lengths}
use Rattle.looking.specs.declared.Act.{Act}
use Rattle.looking.specs.declared.Act.TheVariants.{Leave, Open, Close, Begin, Count, Collect, Refuse, Accept, Store, Object, Await, Go}
use Rattle.receiving.specs.Verdicts.{verdict_of}
use Rattle.receiving.specs.Steps.{step_of}
use Rattle.strips.specs.Replies.{reply_block}
use Rattle.gateway_laws.specs.Classes.{Class, quiet, opening, closing, refusing, accepting, storing, against, taking as gives, sending, hearing, class_of}
use Rattle.gateway_laws.specs.Inner.Classes.{Goes}
use Rattle.gateway_laws.proofs.Proper.{parcel_sends, verdict_proper}
use Rattle.line.specs.Line.{started_line}
use Rattle.line.specs.declared.Line.{Line}
use Rattle.looking.specs.declared.Kind.{Kind}
use Rattle.looking.specs.Views.{texts_of, unfinished_text}
use Rattle.sending.proofs.Offered.{offered_short}
use Rattle.orders.specs.Starts.{is_neutral, can_start, text_look, start_look, start_answer}
use Rattle.orders.specs.Calls.{frame_on, outgoing_on, fetch_answer, fetched_over}
use Rattle.gateway.specs.Events.{line_at}
use Rattle.gateway.specs.Out.{sends, out_bytes, block_out}
use Rattle.serial.specs.Serial.{event, annotate, final, Every}
use Rattle.serial.specs.Kept.{is_of}
use Rattle.promises.specs.Machine.{State, Response, response, Coming, happens, starts, GatewayItem, came, starting, on_line, step, store_of, May, Sound}
use Rattle.promises.specs.Runs.{answered}
use Rattle.promises.specs.Sending.{bytes_on, transfer, replies, transfer_replies, HasRoom}
use Rattle.promises.specs.Sending as transfer-there
use Rattle.promises.specs.Orders.{acks, out_on, ordered_on, sends_on, offers_at, count_until, is_ack, EotTells, longest, ticks, first_of}
use Rattle.promises.specs.Orders as there
use Rattle.promises.proofs.Kept.{keeps}
use Rattle.promises.proofs.Transfers as transfers
use Rattle.promises.proofs.Sendings.{sends_whole}
use Rattle.promises.proofs.Sparing as sparing
use Rattle.promises.proofs.Ending as ending
use Rattle.promises.proofs.EotTells as eots
use Rattle.ledger.specs.Ledgers.{ledger_of}
use Rattle.ledger.proofs.Ledgers.{serial_at_law}
use Rattle.numbers.specs.Plain.{dialogue_of, settings_of, line_of, within_numbers}
use Rattle.keeping.specs.Keeping.{memo_of}
use Rattle.calls.specs.Calls.{HostState}
use Rattle.ngachodui_laws.specs.HostRuns.{gateway_state, InOrder, HostResponse, host_step, number_to, reply_to, after, Run, end_of}
use Rattle.ngachodui_laws.specs.Outcomes.{line_in}
use Rattle.ngachodui_laws.specs.Sound.{Holds}
use Rattle.ngachodui_laws.specs.Sending.{CanSend, says, to_frames}
use Rattle.ngachodui_laws.specs.Orders.{CanStart, sent_on, SentWhole, OrderTaken, begins, enquiries, frames_at, SentSparingly, acknowledgements, neutral_along, FetchedAs}
use Rattle.ngachodui_laws.specs.Inner.Hosting.{in_numbers_of, seen_of}
use Rattle.ngachodui_laws.proofs.PutBack.{line_at_law}
use Rattle.ngachodui_laws.proofs.Hosts.{step_for, upload_for}
use Rattle.ngachodui_laws.proofs.Refusals.{by_tests}
use Rattle.ngachodui_laws.proofs.HostRuns.{one_call, runs_alike, ends_alike, stays_in_order, end_in_order, host_always_sound}
use Rattle.ngachodui_laws.proofs.Sound.{intact}
use Rattle.ngachodui_laws.proofs.Determined.{store_kept}
use Rattle.ngachodui_laws.proofs.Outcomes.{run_keeps, speaks_kept}
use Rattle.ngachodui_laws.proofs.Sending.{seen_responses, seen_replies}

-- ---- what goes out

-- a host sends what the gateway does
out_seen : (i : ℕ) (ys : List (GatewayItem × Response)) → out_on (λ (r : HostResponse). r.buffer) i (map seen_of ys) ≡ out_on (λ (r : Response). r.buffer) i ys
out_seen i [] = refl
out_seen i (y ∷ ys) = ap (λ (bs : List ℕ). cond (is_of i y.0) y.1.buffer [] ++ bs) (out_seen i ys)

-- and its calls are answered by the gateway's numbers
numbers_seen : (n : ℕ) (ys : List (GatewayItem × Response)) → Every (λ y. answered y.1 ≡ n) ys → Every (λ x. x.1.answered.number ≡ n) (map seen_of ys)
numbers_seen n [] h = tt
numbers_seen n (y ∷ ys) h = (h.0, numbers_seen n ys h.1)

acks_apart : (i n l : ℕ) → l ≢ i → Every (λ e. l ≢ line_in e) (acks i n)
acks_apart i zero l n = tt
acks_apart i (suc k) l n = (n, acks_apart i k l n)

module _ (s : HostState) (i : ℕ) (m : List ℕ) (c : CanStart s i m) where
  abbrev o : InOrder s
  o = c.intact.in_order

  abbrev es : List GatewayItem
  es = ordered_on i m

  there_whole : there.SendsWhole (gateway_state s) i m
  there_whole =
      let own = line_at_law s.numbers i c.line in
      sends_whole (gateway_state s) (intact s c.intact) i c.line (ap (λ (l : Line). l.settings.dialogue) own ∙ ap dialogue_of c.speaks) (ap (λ (l : Line). l.state) own ∙ c.neutral) m c.message

  pub sent_whole : SentWhole s i m
  sent_whole = record {
    answers = subst (Every (λ x. x.1.answered.number ≡ sends)) (sym (runs_alike s o es)) (numbers_seen sends (annotate step (gateway_state s) es) there_whole.answers);
    out = ap (out_on (λ (r : HostResponse). r.buffer) i) (runs_alike s o es) ∙ out_seen i (annotate step (gateway_state s) es) ∙ there_whole.out;
    line =
        sym (line_at_law (final host_step s es).numbers i c.line) ∙ ap (λ (x : State). line_at x.gateway i) (ends_alike s o es) ∙ there_whole.line
        ∙ ap started_line (ap (λ (l : Line). l.settings) (line_at_law s.numbers i c.line) ∙ ap settings_of c.speaks);
    others = λ l h n. run_keeps s es l h (n, (n, acks_apart i (length (pieces_of frame_limit m)) l n));
    store = store_kept s (final host_step s es) o (stays_in_order s o es) (ap store_of (ends_alike s o es) ∙ there_whole.store);
  }

-- ---- and comes in

seen_append : (xs ys : List Response) → map in_numbers_of (xs ++ ys) ≡ map in_numbers_of xs ++ map in_numbers_of ys
seen_append [] ys = refl
seen_append (x ∷ xs) ys = ap (λ (zs : List HostResponse). in_numbers_of x ∷ zs) (seen_append xs ys)

seen_transfer : (m : List ℕ) → map in_numbers_of (transfer_replies frame_limit (m ∷ [])) ≡ says 1 ack ∷ (to_frames (pieces_of frame_limit m) ++ (says 5 0 ∷ []))
unfolding reply_of
seen_transfer m =
    let ps = pieces_of frame_limit m in
    ap (λ (xs : List HostResponse). says 1 ack ∷ xs)
    (ap (λ (xs : List Response). map in_numbers_of (xs ++ (response Ended [] ∷ []))) (append-nil (replies ps)) ∙ seen_append (replies ps) (response Ended [] ∷ [])
    ∙ ap (λ (xs : List HostResponse). xs ++ (says 5 0 ∷ [])) (seen_replies ps))

module _ (t : HostState) (l : ℕ) (m : List ℕ) (c : CanSend t l m) where
  transfer_taken : OrderTaken t l m (transfer frame_limit (m ∷ [])) c.intact.entries
  transfer_taken =
      let g = gateway_state t in
      let o = c.intact.in_order in
      let bs = bytes_on l (transfer frame_limit (m ∷ [])) in
      let es = c.intact.entries in
      let room : HasRoom g l (m ∷ []) = rw (add-zero (entry_size (length m))) c.room in
      let d = transfers.transferred l c.line g (intact t c.intact) (line_at_law t.numbers l c.line ∙ c.fresh) (m ∷ []) (c.message, tt) room in
      record {
        answers =
            ap (map (λ (x : GatewayItem × HostResponse). x.1)) (runs_alike t o bs) ∙ seen_responses (annotate step g bs)
            ∙ ap (map in_numbers_of) d.answered ∙ seen_transfer m;
        holds = subst (λ (n : ℕ). Holds (final host_step t bs) (es ++ (record { line = l; serial = n; text = m } ∷ []))) (serial_at_law t.numbers t.counts l c.line)
            (subst (λ (x : State). Held todays_shares x.gateway.ledger x.memory.journal (es ++ transfer-there.new_entries g.gateway.ledger l (m ∷ []))) (sym (ends_alike t o bs)) d.held);
      }

pub order_taken : (s : HostState) (i : ℕ) (m : List ℕ) → CanStart s i m → (t : HostState) (l : ℕ) (c : CanSend t l m) → OrderTaken t l m (sent_on i s (ordered_on i m)) c.intact.entries
order_taken s i m a t l c = subst (λ (bs : List ℕ). OrderTaken t l m bs c.intact.entries) (sym (sent_whole s i m a).out) (transfer_taken t l m c)

-- ---- what is fetched

-- on a line of frames only a sending's frame begins with STX: of other answers that do, one stores a reader's finding, and the others have heard a reader
abbrev for_reader : Class → Bool
for_reader quiet = false
for_reader opening = false
for_reader closing = false
for_reader refusing = false
for_reader accepting = false
for_reader storing = true
for_reader against = false
for_reader gives = false
for_reader sending = false
for_reader hearing = true

with_stx : (a : Answer) → for_reader (class_of a) ≡ false → reply_byte (first_out a) ≡ stx → number_of a ≡ sends
unfolding reply_of
with_stx a other e =
    let test : Answer → Bool = λ x. eqb (reply_byte (first_out x)) stx && not (eqb (number_of x) sends) in
    let none = every_but (λ x. for_reader (class_of x)) test (λ vs. refl) a other in
    by_test_law (eqb (reply_byte (first_out a)) stx) (eqb (number_of a) sends) refl (eq-eqb (reply_byte (first_out a)) stx e) none
  where
    by_test_law : (b c : Bool) → eqb (number_of a) sends ≡ c → b ≡ true → b && not c ≡ false → number_of a ≡ sends
    by_test_law true true q p n = eqb-true (number_of a) sends q
    by_test_law true false q p n = clash cc
    by_test_law false c q p n = clash cc

act_stx : (x : Act) (a : Answer) → Goes x a → reply_byte (first_out a) ≡ stx → number_of a ≡ sends
unfolding reply_of
act_stx Leave a g e = with_stx a (ap for_reader g) e
act_stx Open a g e = with_stx a (ap (λ (b : Answer). for_reader (class_of b)) g) e
act_stx Close a g e = with_stx a (ap for_reader g) e
act_stx Begin a g e = with_stx a (ap (λ (b : Answer). for_reader (class_of b)) g) e
act_stx (Count n) a g e = with_stx a (ap (λ (b : Answer). for_reader (class_of b)) g) e
act_stx Collect a g e = with_stx a (ap (λ (b : Answer). for_reader (class_of b)) g) e
act_stx Refuse a g e = with_stx a (ap for_reader g) e
act_stx (Accept n) a g e = with_stx a (ap (λ (b : Answer). for_reader (class_of b)) g) e
act_stx (Store n) a g e = let z : ack ≡ stx = sym (ap (λ (b : Answer). reply_byte (first_out b)) g) ∙ e in absurd (omega (arith, z))
act_stx (Object n) a g e = with_stx a (ap for_reader g) e
act_stx (Await n) a g e = with_stx a (ap (λ (b : Answer). for_reader (class_of b)) g) e
act_stx (Go s n) a g e = with_stx a (ap (λ (b : Answer). for_reader (class_of b)) g ∙ ap for_reader (parcel_sends s)) e

-- and a start has no frame yet
start_unframed : (i : ℕ) (within can : Bool) (text : List ℕ) (j u f : ℕ) → reply_byte (first_out (start_answer (start_look i within can text j u f))) ≢ stx
unfolding start_look reply_of
start_unframed i within can text j u f = by (ltb i lines) (right_lengths j u f) within can (fault_of text)
  where
    by_text : (x : Result (Unit {0}) Flaw) → reply_byte (first_out (start_answer (text_look x))) ≢ stx
    by_text (Ok tt) q = absurd (omega (arith, q))
    by_text (Err NotText) q = absurd (omega (arith, q))
    by_text (Err (Faulty g place)) q = absurd (omega (arith, q))

    by : (a b c d : Bool) (x : Result (Unit {0}) Flaw)
        → reply_byte (first_out (start_answer (unless a (Err NoLine) (unless b (Err WrongSize) (unless c (Err BeyondLimits) (unless d (Err NotNeutral) (text_look x))))))) ≢ stx
    by true true true true x q = by_text x q
    by true true true false x q = absurd (omega (arith, q))
    by true true false d x q = absurd (omega (arith, q))
    by true false c d x q = absurd (omega (arith, q))
    by false b c d x q = absurd (omega (arith, q))

module _ (r : Run) (i : ℕ) (h : i < lines) (c : Coming) where
  abbrev s : HostState
  s = end_of r

  abbrev t : HostState
  t = after s (event i c)

  t_in_order : InOrder t
  t_in_order = (one_call s (end_in_order r) (event i c)).in_order

  t_sound : Sound (gateway_state t)
  t_sound = subst Sound (sym (one_call s (end_in_order r) (event i c)).state) (keeps (gateway_state s) (event i c) (host_always_sound r) h)

  abbrev frame : List ℕ
  frame = frame_on (line_of t.numbers i) i t.memory.unfinished

  abbrev reply : Option Reply
  reply = (memo_of t.numbers i).reader.reply

  -- what goes out, by what the line speaks
  abbrev out_by : Dialogue → List ℕ
  out_by x = by_dialogue x frame (λ p. reply_block reply)

  reply_short : (x : Option Reply) → length (reply_block x) ≤ frame_limit
  reply_short None = omega arith
  reply_short (Some More) = omega (arith, control_long mor)
  reply_short (Some Again) = omega (arith, control_long rep)

  out_short : (x : Dialogue) → length (out_by x) ≤ frame_limit
  out_short Frames = offered_short frame_limit (line_of t.numbers i) (unfinished_text (line_of t.numbers i) (texts_of i t.memory.unfinished)) (omega arith)
  out_short (Blocks p) = reply_short reply

  put_out : FetchedAs t i (outgoing_on t.numbers i t.memory.unfinished)
  unfolding fetch_answer fetched_over
  put_out out out' q x long =
      let goes = outgoing_on t.numbers i t.memory.unfinished in
      let short : length goes ≤ length out = omega (arith, long, out_short (line_of t.numbers i).settings.dialogue) in
      let line = lt-ltb i lines h in
      let size = eq-eqb (length t.memory.unfinished) unfinished_size t_sound.texts in
      let fits = le-leb (length goes) (length out) short in
      (x.answer ∙ rw (line, size, t_in_order.within i h, fits), x.after ∙ rw (line, size, t_in_order.within i h, fits))

-- on a line of frames a frame comes with 9
framed_number : (s : HostState) (i : ℕ) (k : Kind) → (line_of s.numbers i).settings.dialogue ≡ Frames → reply_to s (came i k) ≡ stx → number_to s (came i k) ≡ sends
unfolding in_numbers step_of reply_of
framed_number s i k f =
    by_tests s (on_line i k) (λ x. x.answered.reply ≡ stx → x.answered.number ≡ sends) (λ e. absurd (omega (arith, e))) (λ e. absurd (omega (arith, e))) (λ e. absurd (omega (arith, e))) stepped uploaded
  where
    line : Line
    line = line_of s.numbers i

    ledger : Ledger
    ledger = ledger_of s.numbers s.counts

    stepped : i < lines → within_numbers s.numbers i ≡ true → line.settings.dialogue ≡ Frames
        → reply_byte (first_out (step_for s (on_line i k)).stepped.answer) ≡ stx → number_of (step_for s (on_line i k)).stepped.answer ≡ sends
    stepped h w d e =
        let v = verdict_of todays_shares line ledger (on_line i k) s.memory.journal s.memory.unfinished s.memory.frames in
        act_stx v.act v.answer (verdict_proper todays_shares line ledger (on_line i k) s.memory.journal s.memory.unfinished s.memory.frames) e

    uploaded : i < lines → within_numbers s.numbers i ≡ true → (p : Patient) → line.settings.dialogue ≡ Blocks p
        → reply_byte (first_out (upload_for s p (on_line i k)).step.stepped.answer) ≡ stx → number_of (upload_for s p (on_line i k)).step.stepped.answer ≡ sends
    uploaded h w p d e = let z : ◌≡◌ {A = Dialogue} Frames (Blocks p) = sym f ∙ d in clash cc

module _ (r : Run) (i : ℕ) (h : i < lines) where
  -- what a line speaks is what it spoke
  speaks_on : (c : Coming) → (line_of (t r i h c).numbers i).settings.dialogue ≡ (line_of (end_of r).numbers i).settings.dialogue
  speaks_on c = ap dialogue_of (speaks_kept (end_of r) (event i c) i h)

  -- with STX, what goes out is what is fetched
  goes_out_law : (k : Kind) → reply_to (end_of r) (came i k) ≡ stx
      → outgoing_on (t r i h (happens k)).numbers i (t r i h (happens k)).memory.unfinished ≡ (host_step (end_of r) (came i k)).0.buffer
  goes_out_law k e = by_dialogue_law (line_of then.numbers i).settings.dialogue refl
    where
      then : HostState
      then = t r i h (happens k)

      number : ℕ
      number = number_to (end_of r) (came i k)

      first : ℕ
      first = reply_to (end_of r) (came i k)

      by_dialogue_law : (x : Dialogue) → (line_of then.numbers i).settings.dialogue ≡ x
          → out_by r i h (happens k) x ≡ by_dialogue x (out_bytes number first (frame r i h (happens k))) (λ p. block_out first (reply r i h (happens k)))
      by_dialogue_law Frames d =
          let nine = framed_number (end_of r) i k (sym (speaks_on (happens k)) ∙ d) e in
          sym ((λ z. out_bytes (nine z) (e z) (frame r i h (happens k))))
      by_dialogue_law (Blocks p) d = sym (ap (λ (n : ℕ). block_out n (reply r i h (happens k))) e)

  pub fetched : (c : Coming) → reply_to (end_of r) (event i c) ≡ stx → FetchedAs (after (end_of r) (event i c)) i (host_step (end_of r) (event i c)).0.buffer
  unfolding in_numbers
  fetched (happens k) e = subst (FetchedAs (t r i h (happens k)) i) (goes_out_law k e) (put_out r i h (happens k))
  fetched (starts text) e = absurd (start_unframed i (within_numbers (end_of r).numbers i) (can_start (line_of (end_of r).numbers i)) text _ _ _ e)

-- ---- how often, and how long

-- counts of a host's run are the gateway's, where what ends them and what they test is alike
module _ (ends : GatewayItem → HostResponse → Bool) (test : GatewayItem → HostResponse → HostState → Bool)
    (Ends-there : GatewayItem → Response → Bool) (test-there : GatewayItem → Response → State → Bool)
    (same_ends : (e : GatewayItem) (r : Response) → ends e (in_numbers_of r) ≡ Ends-there e r)
    (same_test : (e : GatewayItem) (r : Response) (t : HostState) → InOrder t → test e (in_numbers_of r) t ≡ test-there e r (gateway_state t)) where
  counts_alike : (s : HostState) → InOrder s → (es : List GatewayItem) → count_until host_step ends test s es ≡ count_until step Ends-there test-there (gateway_state s) es
  counts_alike s o [] = refl
  counts_alike s o (e ∷ es) =
      let c = one_call s o e in
      let x = (step (gateway_state s) e).0 in
      let t = after s e in
      let stop = ap (ends e) c.response ∙ same_ends e x in
      let here = ap (λ (r : HostResponse). test e r t) c.response ∙ same_test e x t c.in_order ∙ ap (test-there e x) c.state in
      let rest = counts_alike t c.in_order es ∙ ap (λ (y : State). count_until step Ends-there test-there y es) c.state in
      λ z. cond (stop z) 0 (cond (here z) 1 0 + rest z)

state_alike : (t : HostState) (i : ℕ) → i < lines → line_of t.numbers i ≡ line_at (gateway_state t).gateway i
state_alike t i h = sym (line_at_law t.numbers i h)

neutral_alike : (i : ℕ) → i < lines → (s : HostState) → InOrder s → (es : List GatewayItem) → neutral_along i s es ≡ there.neutral_along i (gateway_state s) es
neutral_alike i h s o [] = ap (λ (l : Line). is_neutral l.state) (state_alike s i h)
neutral_alike i h s o (e ∷ es) =
    let c = one_call s o e in
    let here = ap (λ (l : Line). is_neutral l.state) (state_alike s i h) in
    let rest = neutral_alike i h (after s e) c.in_order es ∙ ap (λ (x : State). there.neutral_along i x es) c.state in
    λ z. here z || rest z

module _ (r : Run) (i : ℕ) (h : i < lines) (m : List ℕ) (asks : number_to (end_of r) (starting i m) ≡ sends) (es : List GatewayItem) (may : Every May es) where
  abbrev began : HostState
  began = after (end_of r) (starting i m)

  began_in_order : InOrder began
  began_in_order = (one_call (end_of r) (end_in_order r) (starting i m)).in_order

  abbrev there_began : State
  there_began = (step (gateway_state (end_of r)) (starting i m)).1

  began_is : gateway_state began ≡ there_began
  began_is = (one_call (end_of r) (end_in_order r) (starting i m)).state

  asks_there : answered (step (gateway_state (end_of r)) (starting i m)).0 ≡ sends
  asks_there = sym (ap (λ (x : HostResponse). x.answered.number) (one_call (end_of r) (end_in_order r) (starting i m)).response) ∙ asks

  enquiries_are : enquiries i began es ≡ there.enquiries i there_began es
  enquiries_are =
      counts_alike (begins i) (λ e x t. sends_on enq i e x.answered.number x.answered.reply) (there.begins i)
      (λ e x t. sends_on enq i e (answered x) (first_of x)) (λ e x. refl) (λ e x t q. refl) began began_in_order es
      ∙ ap (λ (x : State). there.enquiries i x es) began_is

  frames_are : (at : ℕ) → frames_at i at began es ≡ there.frames_at i at there_began es
  frames_are at =
      counts_alike (begins i) (λ e x t. sends_on stx i e x.answered.number x.answered.reply && offers_at at (line_of t.numbers i).state) (there.begins i)
      (λ e x t. sends_on stx i e (answered x) (first_of x) && offers_at at (line_at t.gateway i).state) (λ e x. refl) (λ e x t q. ap (λ (l : Line). sends_on stx i e (answered x) (first_of x) && offers_at at l.state) (state_alike t i h)) began began_in_order es
      ∙ ap (λ (x : State). there.frames_at i at x es) began_is

  pub six_sends : SentSparingly i began es
  six_sends =
      let few = sparing.six_sends (gateway_state (end_of r)) (host_always_sound r) i h m asks_there es may in
      record { asked = omega (arith, few.asked, enquiries_are); offered = λ at. omega (arith, few.offered at, frames_are at) }

  acknowledgements_are : (fs : List GatewayItem) → acknowledgements i began fs ≡ there.acknowledgements i there_began fs
  acknowledgements_are fs =
      counts_alike (begins i) (λ e x t. there.acknowledges i e x.answered.number x.answered.reply) (there.begins i)
      (λ e x t. there.acknowledges i e (answered x) (first_of x)) (λ e x. refl) (λ e x t q. refl) began began_in_order fs
      ∙ ap (λ (x : State). there.acknowledgements i x fs) began_is

  neutral_is : neutral_along i began es ≡ there.neutral_along i there_began es
  neutral_is = neutral_alike i h began began_in_order es ∙ ap (λ (x : State). there.neutral_along i x es) began_is

  -- what goes out first with an event behind these calls
  first_is : (k : Kind) → reply_to (final host_step began es) (came i k) ≡ first_of (step (final step there_began es) (came i k)).0
  first_is k =
      ap (λ (x : HostResponse). x.answered.reply) (one_call (final host_step began es) (stays_in_order began began_in_order es) (came i k)).response
      ∙ ap (λ (x : State). first_of (step x (came i k)).0) (ends_alike began began_in_order es ∙ ap (λ (x : State). final step x es) began_is)

  pub eot_tells : neutral_along i began es ≡ false → (k : Kind) → reply_to (final host_step began es) (came i k) ≡ eot
      → EotTells (is_ack k) (acknowledgements i began (es ++ (came i k ∷ []))) (1 + length (pieces_of frame_limit m))
  eot_tells on k e =
      subst (λ (n : ℕ). EotTells (is_ack k) n (1 + length (pieces_of frame_limit m))) (sym (acknowledgements_are (es ++ (came i k ∷ []))))
      (eots.eot_tells (gateway_state (end_of r)) (host_always_sound r) i h m asks_there es may (sym neutral_is ∙ on) k (sym (first_is k) ∙ e))

  pub sending_ends : longest (length (pieces_of frame_limit m)) ≤ ticks i es → neutral_along i began es ≡ true
  sending_ends long =
      neutral_is ∙ ending.sending_ends (gateway_state (end_of r)) (host_always_sound r) i h m asks_there es may long

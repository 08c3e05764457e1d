-- A strip reader's line, of a host's calls: what the gateway promises of its blocks, with the host's own answers and numbers.
-- Assumes nothing.
use Rattle.strips.specs.declared.Reply.TheVariants.{Again, More}
use Rattle.strips.specs.declared.Reply.{Reply}
use Rattle.std.specs.Prelude.{None, Option, Result, Some, Ok, Err}
use Rattle.journal.specs.declared.Refusal.{Refusal}
use mathlib.Core.Path.{◌≡◌, refl, sym, ap, subst, ◌∙◌}
use mathlib.Core.Logic.{◌≢◌}
use mathlib.Core.Bool.{Bool, true, false}
use mathlib.Core.List.{List, [], ◌∷◌, ◌++◌}
use Prim.Native.Nat.{ℕ, ◌<◌}
use native.Mathlib.Omega.{arith}
use lib.Dec.{ltb}
use lib.ListN.{length}
use Rattle.memory.specs.Sizes.{lines}
use Rattle.memory.specs.Tests.{is, unless}
use Rattle.memory.proofs.Tests.{clash}
use Rattle.characters.specs.Control.{stx}
use Rattle.room.specs.Room.{todays_shares}
use Rattle.settings.specs.Settings.{by_dialogue}
use Rattle.settings.specs.declared.Patient.{Patient}
use Rattle.settings.specs.declared.Dialogue.{Dialogue}
use Rattle.settings.specs.declared.Dialogue.TheVariants.{Frames, Blocks}
use Rattle.journal.specs.Verdicts.{judge_of}
use Rattle.journal.specs.declared.Ledger.{Ledger}
use Rattle.line.specs.Line.{block_within}
use Rattle.line.specs.declared.Line.{Line}
use Rattle.answers.specs.Paper.{reply_of, first_out}
use Rattle.answers.specs.InNumbers.{reply_byte, in_numbers}
use Rattle.answers.specs.declared.Answer.TheVariants.{NoLine, WrongSize, BeyondLimits}
use Rattle.looking.specs.Lent.{right_sizes}
use Rattle.looking.specs.Views.{frames_of}
use Rattle.looking.specs.declared.Event.{Event}
use Rattle.looking.specs.declared.Kind.{Kind}
use Rattle.looking.specs.declared.Kind.TheVariants.{Byte, Seconds}
use Rattle.receiving.specs.Steps.{Memory}
use Rattle.block.specs.Layouts.{mor, rep}
use Rattle.block.specs.Judged.{judged_of}
use Rattle.block.specs.Controls.{control_bytes}
use Rattle.block.specs.declared.Judged.{Judged}
use Rattle.block.specs.declared.Judged.TheVariants.{OddLength, OddTest, OddByte, Multiple, Repeat, End, Colours, Results}
use Rattle.block.proofs.Controls.{control_long, control_tested, control_matches}
use Rattle.finding.specs.Findings.{finding_of}
use Rattle.strips.specs.Readers.{Memo, is_again}
use Rattle.strips.specs.Replies.{reply_number, reply_block}
use Rattle.strips.specs.Sights.{sight_of}
use Rattle.strips.specs.Hearings.{reply_answer, hearing_of}
use Rattle.strips.specs.declared.Sight.{Sight}
use Rattle.strips.specs.declared.Sight.TheVariants.{Ignores, Adds, Judges}
use Rattle.strips.specs.declared.Reader.{Reader}
use Rattle.uploads.specs.Uploads.{leave, settle, AfterUpload, Ruling, ruling, filing, block_bytes, judged_block, seen_as, memo_by, block_of, ruling_of, ruling_on, upload_of}
use Rattle.gateway.specs.Events.{memo_at}
use Rattle.gateway.specs.Out.{out_bytes, block_out}
use Rattle.orders.specs.Calls.{frame_on}
use Rattle.serial.specs.Serial.{final}
use Rattle.promises.specs.Machine.{State, came, on_line, step, store_of}
use Rattle.promises.specs.Runs.{fresh, is_results}
use Rattle.promises.specs.Readers.{Ends, number_for, out_for, LastOf}
use Rattle.promises.specs.Readers as told
use Rattle.promises.specs.Queue as queue
use Rattle.promises.proofs.Readers.{block_told, repeat_dropped}
use Rattle.promises.proofs.KeptBlocks as blocks
use Rattle.layout.specs.Layout.{reply_at, frames as frames_spoken, speaks_at, number_at}
use Rattle.ledger.specs.Ledgers.{ledger_of}
use Rattle.numbers.specs.Plain.{dialogue_of, line_of}
use Rattle.keeping.specs.Keeping.{memo_of}
use Rattle.calls.specs.Calls.{HostState, AfterCall, call_of}
use Rattle.uploads.specs.Calls.{put_upload}
use Rattle.ngachodui_laws.specs.HostRuns.{gateway_state, InOrder, HostResponse, host_step, number_to, reply_to, after, Run, begin_of, end_of}
use Rattle.ngachodui_laws.specs.Readers.{EndsBlock, ended_block, memo_on, sent_with, NotStored, stored_with, ToReader, more, again, RightControl}
use Rattle.ngachodui_laws.proofs.PutBack.{memo_at_law}
use Rattle.ngachodui_laws.proofs.Stores.{stored, stored_length}
use Rattle.ngachodui_laws.proofs.Memos.{reader_numbers_law, memo_own}
use Rattle.ngachodui_laws.proofs.Hosts.{upload_for, frames_number, blocks_facts, upload_is, upload_long}
use Rattle.ngachodui_laws.proofs.Outcomes.{speaks_kept}
use Rattle.ngachodui_laws.proofs.HostRuns.{one_call, end_in_order, end_is, fresh_in_order, fresh_is, begun, begun_right}
use Rattle.ngachodui_laws.proofs.Sound.{intact, always_sound}
use Rattle.ngachodui_laws.proofs.Determined.{store_kept}
use Rattle.ngachodui_laws.proofs.Queue.{stored_alike}

-- ---- blocks

module _ (r : Run) (i : ℕ) (h : i < lines) (b : ℕ) (p : Patient) (ends : EndsBlock (end_of r) i b p) where
  abbrev s : HostState
  s = end_of r

  memo_is : memo_at (gateway_state s).gateway i ≡ memo_on s i
  memo_is = memo_at_law s.numbers i h

  -- what the gateway is told of a block that is not stored is what the host is told
  unstored : (number : ℕ) (sent : List ℕ) → told.Told (gateway_state s) i b number sent → told.StoreKept (gateway_state s) i b → NotStored s i b number sent
  unstored number sent x kept =
      let c = one_call s (end_in_order r) (came i (Byte b)) in
      record {
        answer = ap (λ (y : HostResponse). y.answered.number) c.response ∙ x.number_is;
        out = ap (λ (y : HostResponse). y.buffer) c.response ∙ x.out_is;
        store = store_kept s (after s (came i (Byte b))) (end_in_order r) c.in_order (ap store_of c.state ∙ kept);
      }

  pub block_answered : (x : Judged) → judged_of p (ended_block s i b) ≡ x → is_results x ≡ false → NotStored s i b (number_for x) (out_for x (memo_on s i).reader.reply)
  block_answered x is other =
      let found = block_told (gateway_state s) (intact s (always_sound r).intact) i b h p ends x is other in
      subst (λ (w : Memo). NotStored s i b (number_for x) (out_for x w.reader.reply)) memo_is (unstored (number_for x) (out_for x (memo_at (gateway_state s).gateway i).reader.reply) found.0 found.1)

  module _ (is : judged_of p (ended_block s i b) ≡ Results) where
    pub repeat_not_stored : is_again (memo_on s i) (ended_block s i b) ≡ true → NotStored s i b 11 (control_bytes mor)
    repeat_not_stored same =
        let found = repeat_dropped (gateway_state s) (intact s (always_sound r).intact) i b h p ends is (ap (λ (w : Memo). is_again w (ended_block s i b)) memo_is ∙ same) in
        unstored 11 (control_bytes mor) found.0 found.1

    pub more_stored : sent_with s i b ≢ [] → LastOf (stored_with r i b) (finding_of p (ended_block s i b))
    more_stored some =
        let es = r.calls ++ (came i (Byte b) ∷ []) in
        let all : stored_with r i b ≡ queue.all_stored i (fresh (begun r)) es = stored_alike i (begin_of r) (fresh_in_order r) es ∙ ap (λ (x : State). queue.all_stored i x es) (fresh_is r) in
        let sent = ap (λ (y : HostResponse). y.buffer) (one_call s (end_in_order r) (came i (Byte b))).response in
        subst (λ (ts : List (List ℕ)). LastOf ts (finding_of p (ended_block s i b))) (sym all) (last (gateway_state s) (end_is r) ends is (λ e. some (sent ∙ e)))
      where
        last : (g : State) → g ≡ final step (fresh (begun r)) r.calls → Ends g i b p → judged_of p (told.block_at g i b) ≡ Results → (step g (came i (Byte b))).0.buffer ≢ []
            → LastOf (queue.all_stored i (fresh (begun r)) (r.calls ++ (came i (Byte b) ∷ []))) (finding_of p (told.block_at g i b))
        last g e =
            subst (λ (x : State). Ends x i b p → judged_of p (told.block_at x i b) ≡ Results → (step x (came i (Byte b))).0.buffer ≢ []
            → LastOf (queue.all_stored i (fresh (begun r)) (r.calls ++ (came i (Byte b) ∷ []))) (finding_of p (told.block_at x i b))) (sym e)
            (λ there right out. blocks.more_stored (begun r) (begun_right r) r.calls r.may i h b p there right out)

-- ---- what goes out

-- where STX is answered our last reply is one
reply_out : (x : Option Reply) → reply_byte (first_out (reply_answer x)) ≡ stx → x ≢ None
unfolding reply_of
reply_out None e q = absurd (omega (arith, e))
reply_out (Some More) e q = clash (cc q)
reply_out (Some Again) e q = clash (cc q)

hearing_out : (x : Judged) (same : Bool) (r : Reader) → reply_byte (first_out (hearing_of x same r).answer) ≡ stx → (hearing_of x same r).reader.reply ≢ None
unfolding reply_of
hearing_out OddLength same r e q = clash (cc q)
hearing_out OddTest same r e q = clash (cc q)
hearing_out OddByte same r e q = clash (cc q)
hearing_out Multiple same r e q = clash (cc q)
hearing_out Repeat same r e q = reply_out r.reply e q
hearing_out End same r e q = absurd (omega (arith, e))
hearing_out Colours same r e q = clash (cc q)
hearing_out Results true r e q = clash (cc q)
hearing_out Results false r e q = clash (cc q)

filing_out : (j : Result (Unit {0}) Refusal) (r : Reader) (w : Memo) (bs : List ℕ) → reply_byte (first_out (filing j r).answer) ≡ stx → (memo_by (filing j r).deed w bs).reader.reply ≢ None
unfolding reply_of
filing_out (Ok tt) r w bs e q = clash (cc q)
filing_out (Err Refusal.NoRoom) r w bs e q = absurd (omega (arith, e))
filing_out (Err Refusal.Broken) r w bs e q = absurd (omega (arith, e))
filing_out (Err Refusal.NoLine) r w bs e q = absurd (omega (arith, e))
filing_out (Err Refusal.WrongSize) r w bs e q = absurd (omega (arith, e))
filing_out (Err Refusal.Malformed) r w bs e q = absurd (omega (arith, e))

-- of a ruling, with what is kept of the reader then
abbrev SaidOut : Memo → List ℕ → Ruling → Type 0
SaidOut w bs x = reply_byte (first_out x.answer) ≡ stx → (memo_by x.deed w bs).reader.reply ≢ None

work_out : (p : Patient) (l : Line) (w : Memo) (d : Ledger) (i : ℕ) (k : Kind) (journal frames : List ℕ) → SaidOut w (block_of k l frames) (ruling_of todays_shares p l w d i k journal frames)
unfolding ruling_of reply_of
work_out p l w d i (Seconds n) journal frames = λ e q. absurd (omega (arith, e))
work_out p l w d i (Byte b) journal frames = by_sight (sight_of p l b)
  where
    bs : List ℕ
    bs = block_bytes l b frames

    same : Bool
    same = is_again w bs

    judgement : Result (Unit {0}) Refusal
    judgement = judge_of d todays_shares i (length (finding_of p bs)) journal

    by_hearing : (x : Judged) (stores : Bool) → SaidOut w bs (unless stores (ruling (settle (hearing_of x same w.reader).reader) (hearing_of x same w.reader).answer) (filing judgement w.reader))
    by_hearing x true = filing_out judgement w.reader w bs
    by_hearing x false = hearing_out x same w.reader

    by_sight : (x : Sight) → SaidOut w bs (seen_as x (judged_block todays_shares p l w d i bs journal))
    by_sight Ignores = λ e q. absurd (omega (arith, e))
    by_sight Adds = λ e q. absurd (omega (arith, e))
    by_sight Judges = by_hearing (judged_of p bs) (hearing_of (judged_of p bs) same w.reader).stores

ruling_out : (p : Patient) (l : Line) (w : Memo) (d : Ledger) (e : Event) (m : Memory) → SaidOut w (block_of e.kind l (frames_of e.line m.frames)) (ruling_on todays_shares p l w d e m)
unfolding ruling_on reply_of
ruling_out p l w d e m = by (ltb e.line lines) (right_sizes m.journal m.unfinished m.frames) (block_within p l)
  where
    bs : List ℕ
    bs = block_of e.kind l (frames_of e.line m.frames)

    work : Ruling
    work = ruling_of todays_shares p l w d e.line e.kind m.journal (frames_of e.line m.frames)

    by : (x y z : Bool) → SaidOut w bs (unless x (ruling leave NoLine) (unless y (ruling leave WrongSize) (unless z (ruling leave BeyondLimits) work)))
    by false y z = λ c q. absurd (omega (arith, c))
    by true false z = λ c q. absurd (omega (arith, c))
    by true true false = λ c q. absurd (omega (arith, c))
    by true true true = work_out p l w d e.line e.kind m.journal (frames_of e.line m.frames)

-- what goes out, whatever it is that sends it: a wrong one is refused here, before a host's whole step is compared
sends_more : (t : HostState) (i : ℕ) (sent : List ℕ) → number_at t.numbers i reply_at ≡ reply_number (Some More) → sent ≡ control_bytes mor → ToReader t i sent
sends_more t i sent a b = more a b

sends_again : (t : HostState) (i : ℕ) (sent : List ℕ) → number_at t.numbers i reply_at ≡ reply_number (Some Again) → sent ≡ control_bytes rep → ToReader t i sent
sends_again t i sent a b = again a b

module _ (r : Run) (i : ℕ) (h : i < lines) (reader : number_at (end_of r).numbers i speaks_at ≢ frames_spoken) (k : Kind) (first : reply_to (end_of r) (came i k) ≡ stx) where
  abbrev now : HostState
  now = end_of r

  abbrev then : HostState
  then = after now (came i k)

  abbrev reply : Option Reply
  reply = (memo_of then.numbers i).reader.reply

  then_in_order : InOrder then
  then_in_order = (one_call now (end_in_order r) (came i k)).in_order

  module _ (p : Patient) (speaks : (line_of now.numbers i).settings.dialogue ≡ Blocks p) where
    abbrev upload : AfterUpload
    upload = upload_for now p (on_line i k)

    call_is : call_of now (on_line i k) ≡ put_upload now i upload
    call_is = upload_is now (on_line i k) h ((end_in_order r).within i h) p speaks

    -- what is kept of the reader then
    memo_then : memo_of then.numbers i ≡ upload.memo
    memo_then =
        let told = upload.step.stepped.line in
        let kept = upload.step.stepped.ledger in
        let long = upload_long now p (on_line i k) (blocks_facts now.numbers i p ((end_in_order r).within i h) speaks).within in
        ap (λ (c : AfterCall). memo_of c.state.numbers i) call_is
        ∙ memo_own (stored now.numbers i told kept) i upload.memo h long (stored_length now.numbers i told kept ∙ (end_in_order r).numbers)

    upload_replied : upload.memo.reader.reply ≢ None
    unfolding upload_of in_numbers
    upload_replied =
        let said = sym (ap (λ (c : AfterCall). c.answered.reply) call_is) ∙ first in
        ruling_out p (line_of now.numbers i) (memo_of now.numbers i) (ledger_of now.numbers now.counts) (on_line i k) now.memory said

    replied : reply ≢ None
    replied e = upload_replied (sym (ap (λ (w : Memo). w.reader.reply) memo_then) ∙ e)

    speaks_then : (line_of then.numbers i).settings.dialogue ≡ Blocks p
    speaks_then = ap dialogue_of (speaks_kept now (came i k) i h) ∙ speaks

    out_is : (host_step now (came i k)).0.buffer ≡ reply_block reply
    out_is = by_dialogue_law (line_of then.numbers i).settings.dialogue speaks_then
      where
        frame : List ℕ
        frame = out_bytes (number_to now (came i k)) (reply_to now (came i k)) (frame_on (line_of then.numbers i) i then.memory.unfinished)

        by_dialogue_law : (x : Dialogue) → x ≡ Blocks p → by_dialogue x frame (λ q. block_out (reply_to now (came i k)) reply) ≡ reply_block reply
        by_dialogue_law Frames e = clash (cc e)
        by_dialogue_law (Blocks q) e = ap (λ (n : ℕ). block_out n reply) first

    by_reply : (x : Option Reply) → reply ≡ x → ToReader then i (host_step now (came i k)).0.buffer
    by_reply None e = absurd (replied e)
    by_reply (Some More) e = sends_more then i _ (sym (reader_numbers_law then.numbers i (then_in_order.readers i h)).reply ∙ ap reply_number e) (out_is ∙ ap reply_block e)
    by_reply (Some Again) e = sends_again then i _ (sym (reader_numbers_law then.numbers i (then_in_order.readers i h)).reply ∙ ap reply_number e) (out_is ∙ ap reply_block e)

  pub to_reader : ToReader then i (host_step now (came i k)).0.buffer
  to_reader = by_dialogue_law (line_of now.numbers i).settings.dialogue refl
    where
      by_dialogue_law : (x : Dialogue) → (line_of now.numbers i).settings.dialogue ≡ x → ToReader then i (host_step now (came i k)).0.buffer
      by_dialogue_law Frames e = absurd (reader (frames_number (number_at now.numbers i speaks_at) e))
      by_dialogue_law (Blocks p) e = by_reply p e reply refl

-- what we send to a reader is right by our own tests
right_control : (code : ℕ) → RightControl code
right_control code = record { long = control_long code; tested = control_tested code; laid_out = control_matches code }

pub replies_right : RightControl mor × RightControl rep
replies_right = (right_control mor, right_control rep)

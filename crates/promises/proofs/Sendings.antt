-- Where every reply is ACK, what goes out from a start to our EOT is the message's transfer, byte for byte. So a gateway of ours that gets it, with room, stores the message.
-- Assumes nothing.
use Rattle.std.specs.Prelude.{Ok, Result}
use Rattle.answers.specs.declared.Answer.{Answer}
use mathlib.Core.Path.{◌≡◌, refl, sym, ap, ap₂, subst, ◌∙◌}
use mathlib.Core.Logic.{◌≢◌}
use mathlib.Core.Bool.{true, false}
use mathlib.Core.List.{List, [], ◌∷◌, ◌++◌, append_assoc, append-nil}
use Prim.Native.Nat.{ℕ, zero, suc, ◌+◌, ◌≤◌, ◌<◌}
use native.Mathlib.Decide.{dec_lt}
use native.Mathlib.Omega.{arith}
use borrow.Author.Tests.{eq-eqb, lt-ltb, le-ltb}
use lib.ListN.{length, drop}
use Rattle.memory.specs.Sizes.{lines, frame_limit}
use Rattle.characters.specs.Control.{enq, eot}
use Rattle.digits.specs.Number.{first_number, next_number}
use Rattle.faults.specs.Message.{is_message}
use Rattle.faults.proofs.Messages.{message_some}
use Rattle.frame.specs.Piece.{Piece}
use Rattle.framing.specs.Frames.{frames_from}
use Rattle.pieces.specs.Pieces.{pieces_of}
use Rattle.answers.specs.Paper.{ack, number_of}
use Rattle.memory.proofs.Tests.{and_both}
use Rattle.settings.specs.Settings.{by_dialogue}
use Rattle.settings.specs.declared.Dialogue.{Dialogue}
use Rattle.settings.specs.declared.Dialogue.TheVariants.{Frames}
use Rattle.line.specs.Line.{started_line, fresh_line}
use Rattle.line.specs.declared.State.TheVariants.{Neutral, Out}
use Rattle.line.specs.declared.Sending.{Sending}
use Rattle.line.specs.declared.Sending.TheVariants.{Asking, Offering}
use Rattle.sending.specs.Onward.{piece_at, offer, ask_reply, frame_reply}
use Rattle.sending.specs.Offered.{frame_at}
use Rattle.sending.specs.declared.Onward.{Onward}
use Rattle.sending.specs.declared.Onward.TheVariants.{Goes, Ends}
use Rattle.sending.proofs.Pieces.{piece_first, pieces_past, offered_cut}
use Rattle.looking.specs.declared.Kind.{Kind}
use Rattle.looking.specs.declared.Kind.TheVariants.{Byte}
use Rattle.orders.specs.Starts.{is_neutral, can_start, start_answer}
use Rattle.gateway.specs.Events.{line_at, dialogue_at}
use Rattle.gateway.specs.Out.{sends}
use Rattle.serial.specs.Serial.{event, annotate, final, Every}
use Rattle.promises.specs.Machine.{State, Response, Coming, happens, starts, GatewayItem, came, starting, step, Parts, parts_of, told, store_of}
use Rattle.promises.specs.Inner.ByParts.{parts_started}
use Rattle.promises.specs.Runs.{answered}
use Rattle.promises.specs.Clean.{unfinished_in}
use Rattle.promises.specs.Sending.{Intact, transfer_replies, HasRoom, Delivers}
use Rattle.promises.specs.Orders.{acks, out_on, ordered_on, SendsWhole}
use Rattle.promises.proofs.Sound.{event_others, shaped_intact}
use Rattle.promises.proofs.Starts.{start, message_starts, start_answer_law, start_others, start_store, start_shaped, asks_own, asks_text}
use Rattle.promises.proofs.Transfers.{transferred}
use Rattle.promises.proofs.Onward.{onward_by, answer_on, parts_on, said_on, out_answer, out_own, out_store, out_intact}
use Rattle.promises.proofs.Items.{state_of}
use Rattle.promises.proofs.Parts.{told_frames}
use Rattle.promises.proofs.Dialogues.{item_settings, still_frames}

-- ---- what an ACK makes of a sending

module _ (p : Parts) where
  -- behind our ENQ the first frame is offered, and behind a frame the next
  ask_acked : (n : ℕ) → onward_by p (Asking n) (Byte ack) ≡ offer p.line 0 first_number
  unfolding ask_reply
  ask_acked n = refl

  frame_acked : (n at : ℕ) → at < p.line.joined
      → onward_by p (Offering n at) (Byte ack) ≡ offer p.line (at + piece_at frame_limit at (unfinished_in p)) (next_number p.line.next)
  unfolding frame_reply
  frame_acked n at there = rw (lt-ltb at p.line.joined there)

  -- with it the frame goes out
  frame_out : (at number : ℕ) → at < p.line.joined
      → (said_on (Goes (Offering 1 at) number) p).buffer ≡ frame_at frame_limit number at (unfinished_in p)
  frame_out at number there = rw (lt-ltb at p.line.joined there)

module _ (i : ℕ) (h : i < lines) where
  -- every item of the run es is answered 9, bs go out on line i, the line is then as started, and nothing else has changed but its memory
  record Sends (s : State) (es : List GatewayItem) (bs : List ℕ) : Type 0 where
    answers : Every (λ x. answered x.1 ≡ sends) (annotate step s es)
    out : out_on (λ (r : Response). r.buffer) i (annotate step s es) ≡ bs
    line : (parts_of (final step s es) i).line ≡ started_line (parts_of s i).line.settings
    others : (l : ℕ) → l ≢ i → parts_of (final step s es) l ≡ parts_of s l
    store : store_of (final step s es) ≡ store_of s

  -- one item of line i in front
  sends_onto : (s : State) (k : Coming) (es : List GatewayItem) (b bs : List ℕ) → answered (step s (event i k)).0 ≡ sends → (step s (event i k)).0.buffer ≡ b
      → ((l : ℕ) → l ≢ i → parts_of (step s (event i k)).1 l ≡ parts_of s l) → store_of (step s (event i k)).1 ≡ store_of s
      → Sends (step s (event i k)).1 es bs → Sends s (event i k ∷ es) (b ++ bs)
  sends_onto s k es b bs nine goes others store x = record {
    answers = (nine, x.answers);
    out = rw (eq-eqb i i refl) (ap₂ ◌++◌ goes x.out);
    line = x.line ∙ ap started_line (item_settings s (event i k) i);
    others = λ l n. x.others l n ∙ others l n;
    store = x.store ∙ store;
  }

  module _ (m : List ℕ) where
    -- line i sends m, and has come so far
    record At (s : State) (t : Sending) (number : ℕ) : Type 0 where
      intact : Intact s
      speaks : dialogue_at s.gateway i ≡ Frames
      out : state_of s i ≡ Out t
      text : unfinished_in (parts_of s i) ≡ m
      joined : (parts_of s i).line.joined ≡ length m
      next : (parts_of s i).line.next ≡ number

    module _ (s : State) (t : Sending) (number : ℕ) (x : At s t number) (k : Kind) (o : Onward) (is : onward_by (parts_of s i) t k ≡ o) where
      buffer_is : (step s (came i k)).0.buffer ≡ (said_on o (parts_of s i)).buffer
      buffer_is = ap (λ (r : Response). r.buffer) (out_answer s x.intact i h x.speaks t x.out k) ∙ ap (λ (y : Onward). (said_on y (parts_of s i)).buffer) is

      number_is : answered (step s (came i k)).0 ≡ number_of (answer_on o)
      number_is = ap answered (out_answer s x.intact i h x.speaks t x.out k) ∙ ap (λ (y : Onward). number_of (answer_on y)) is

      own_is : parts_of (step s (came i k)).1 i ≡ parts_on o (parts_of s i)
      own_is = out_own s x.intact i h x.speaks t x.out k ∙ ap (λ (y : Onward). parts_on y (parts_of s i)) is

      onto : (es : List GatewayItem) (b bs : List ℕ) → number_of (answer_on o) ≡ sends → (said_on o (parts_of s i)).buffer ≡ b → Sends (step s (came i k)).1 es bs
          → Sends s (came i k ∷ es) (b ++ bs)
      onto es b bs nine goes = sends_onto s (happens k) es b bs (number_is ∙ nine) (buffer_is ∙ goes) (event_others s x.intact i k h) (out_store s x.intact i h x.speaks t x.out k)

    -- ACK, where the text has a byte at the place that is to be offered: its frame goes out
    module _ (s : State) (t : Sending) (number : ℕ) (x : At s t number) (at then : ℕ) (there : at < length m)
        (is : onward_by (parts_of s i) t (Byte ack) ≡ offer (parts_of s i).line at then) where
      in_text : at < (parts_of s i).line.joined
      in_text = omega (arith, x.joined)

      goes_is : onward_by (parts_of s i) t (Byte ack) ≡ Goes (Offering 1 at) then
      goes_is = is ∙ rw (lt-ltb at (parts_of s i).line.joined in_text)

      offers : At (step s (came i (Byte ack))).1 (Offering 1 at) then
      offers =
          let own = own_is s t number x (Byte ack) (Goes (Offering 1 at) then) goes_is in
          record {
            intact = out_intact s x.intact i h x.speaks t x.out (Byte ack);
            speaks = still_frames s (came i (Byte ack)) i x.speaks;
            out = ap (λ (p : Parts). p.line.state) own;
            text = ap unfinished_in own ∙ x.text;
            joined = ap (λ (p : Parts). p.line.joined) own ∙ x.joined;
            next = ap (λ (p : Parts). p.line.next) own;
          }

      sends_frame : (es : List GatewayItem) (bs : List ℕ) → Sends (step s (came i (Byte ack))).1 es bs → Sends s (came i (Byte ack) ∷ es) (frame_at frame_limit then at m ++ bs)
      sends_frame es bs =
          onto s t number x (Byte ack) (Goes (Offering 1 at) then) goes_is es (frame_at frame_limit then at m) bs refl (frame_out (parts_of s i) at then in_text ∙ ap (frame_at frame_limit then at) x.text)

    -- and where it has none, our EOT does
    sends_end : (s : State) (t : Sending) (number : ℕ) (x : At s t number) (at then : ℕ) → length m ≤ at → onward_by (parts_of s i) t (Byte ack) ≡ offer (parts_of s i).line at then
        → Sends s (came i (Byte ack) ∷ []) (eot ∷ [])
    sends_end s t number x at then past is =
        let ended : onward_by (parts_of s i) t (Byte ack) ≡ Ends = is ∙ rw (le-ltb at (parts_of s i).line.joined (omega (arith, x.joined))) in
        let fresh = ap (λ (p : Parts). p.line) (own_is s t number x (Byte ack) Ends ended) ∙ ap started_line (sym (item_settings s (came i (Byte ack)) i)) in
        onto s t number x (Byte ack) Ends ended [] (eot ∷ []) [] refl refl (record { answers = tt; out = refl; line = fresh; others = λ l n. refl; store = refl })

    -- ---- the frames, one behind the other

    abbrev behind : ℕ → ℕ
    behind at = at + piece_at frame_limit at m

    -- what an ACK makes of a frame of m
    next_acked : (s : State) (n at number : ℕ) → At s (Offering n at) number → at < length m → onward_by (parts_of s i) (Offering n at) (Byte ack) ≡ offer (parts_of s i).line (behind at) (next_number number)
    next_acked s n at number x there =
        frame_acked (parts_of s i) n at (omega (arith, x.joined))
        ∙ ap₂ (λ (text : List ℕ) (next : ℕ). offer (parts_of s i).line (at + piece_at frame_limit at text) (next_number next)) x.text x.next

    walk : (k : ℕ) (s : State) (n at number : ℕ) → At s (Offering n at) number → at < length m → length (pieces_of frame_limit (drop at m)) ≡ k
        → Sends s (acks i k) (frames_from (next_number number) (pieces_of frame_limit (drop (behind at) m)) ++ (eot ∷ []))
    walk zero s n at number x there many = absurd (omega (arith, ap (λ (ps : List Piece). length ps) (piece_first frame_limit at m (omega arith) there)))
    walk (suc k) s n at number x there many =
        let left : length (pieces_of frame_limit (drop (behind at) m)) ≡ k = omega (arith, ap (λ (ps : List Piece). length ps) (piece_first frame_limit at m (omega arith) there)) in
        let acked = next_acked s n at number x there in
        elim (dec_lt (behind at) (length m)) [
          | yes more ↦
              let then = next_number number in
              let rest = frames_from (next_number then) (pieces_of frame_limit (drop (behind (behind at)) m)) in
              let later = walk k (step s (came i (Byte ack))).1 1 (behind at) then (offers s (Offering n at) number x (behind at) then more acked) more left in
              let whole = ap (λ (bs : List ℕ). bs ++ (eot ∷ [])) (offered_cut frame_limit (behind at) m (omega arith) more then) ∙ append_assoc (frame_at frame_limit then (behind at) m) rest (eot ∷ []) in
              subst (Sends s (acks i (suc k))) (sym whole) (sends_frame s (Offering n at) number x (behind at) then more acked (acks i k) (rest ++ (eot ∷ [])) later)
          | no past ↦
              let none : length m ≤ behind at = omega arith in
              let nothing = pieces_past frame_limit (behind at) m none in
              let last : 0 ≡ k = sym (ap (λ (ps : List Piece). length ps) nothing) ∙ left in
              subst (λ (j : ℕ). Sends s (acks i (suc j)) (frames_from (next_number number) (pieces_of frame_limit (drop (behind at) m)) ++ (eot ∷ []))) last
              (subst (λ (ps : List Piece). Sends s (acks i 1) (frames_from (next_number number) ps ++ (eot ∷ []))) (sym nothing) (sends_end s (Offering n at) number x (behind at) (next_number number) none acked))
        ]

-- ---- from the start on

module _ (s : State) (w : Intact s) (i : ℕ) (h : i < lines) (speaks : dialogue_at s.gateway i ≡ Frames) (neutral : (line_at s.gateway i).state ≡ Neutral) (m : List ℕ) (message : is_message m ≡ true) where
  abbrev begun : State
  begun = (step s (starting i m)).1

  can : can_start (line_at s.gateway i) ≡ true
  can = and_both _ _ (ap is_neutral neutral) (ap (λ (d : Dialogue). by_dialogue d true (λ p. false)) speaks)

  asks : start s w i m h ≡ Ok tt
  asks = message_starts s w i m h can message

  -- our ENQ awaits its reply
  asking : At i h m begun (Asking 0) first_number
  asking =
      let own = asks_own s w i m h asks in
      record {
        intact = shaped_intact s begun w (start_shaped s w i m h) (start_store s w i m h);
        speaks = still_frames s (starting i m) i speaks;
        out = ap (λ (p : Parts). p.line.state) own;
        text = ap unfinished_in own ∙ asks_text s w i m h asks;
        joined = ap (λ (p : Parts). p.line.joined) own;
        next = ap (λ (p : Parts). p.line.next) own;
      }

  enq_answered : answered (step s (starting i m)).0 ≡ sends
  enq_answered = ap answered (start_answer_law s w i m h) ∙ ap (λ (x : Result (Unit {0}) Answer). number_of (start_answer x)) asks

  enq_out : (step s (starting i m)).0.buffer ≡ enq ∷ []
  enq_out =
      ap (λ (r : Response). r.buffer) (start_answer_law s w i m h) ∙ ap (λ (x : Result (Unit {0}) Answer). (told (start_answer x) (parts_started x (parts_of s i) m)).buffer) asks
      ∙ ap (λ (r : Response). r.buffer) (told_frames (parts_started (Ok tt) (parts_of s i) m) (start_answer (Ok tt)) speaks)

  -- the first frame, and those behind it
  frames_out_law : Sends i h begun (came i (Byte ack) ∷ acks i (length (pieces_of frame_limit m))) (frames_from first_number (pieces_of frame_limit m) ++ (eot ∷ []))
  frames_out_law =
      let some = message_some _ m message in
      let acked = ask_acked (parts_of begun i) 0 in
      let rest = frames_from (next_number first_number) (pieces_of frame_limit (drop (behind i h m 0) m)) in
      let later = walk i h m (length (pieces_of frame_limit m)) (step begun (came i (Byte ack))).1 1 0 first_number (offers i h m begun (Asking 0) first_number asking 0 first_number some acked) some refl in
      let whole = ap (λ (bs : List ℕ). bs ++ (eot ∷ [])) (offered_cut frame_limit 0 m (omega arith) some first_number) ∙ append_assoc (frame_at frame_limit first_number 0 m) rest (eot ∷ []) in
      subst (Sends i h begun (came i (Byte ack) ∷ acks i (length (pieces_of frame_limit m)))) (sym whole)
      (sends_frame i h m begun (Asking 0) first_number asking 0 first_number some acked (acks i (length (pieces_of frame_limit m))) (rest ++ (eot ∷ [])) later)

  all_out_law : SendsWhole s i m
  all_out_law =
      let x = sends_onto i h s (starts m) (came i (Byte ack) ∷ acks i (length (pieces_of frame_limit m))) (enq ∷ []) _ enq_answered enq_out (start_others s w i m h) (start_store s w i m h) frames_out_law in
      record {
        answers = x.answers;
        out = x.out ∙ ap (λ (ps : List Piece). enq ∷ (frames_from first_number ps ++ (eot ∷ []))) (sym (append-nil (pieces_of frame_limit m)));
        line = x.line;
        others = x.others;
        store = x.store;
      }

-- a message that is started on a neutral line of frames, and an ACK to each that goes out
pub sends_whole : (s : State) → Intact s → (i : ℕ) → i < lines → dialogue_at s.gateway i ≡ Frames → (line_at s.gateway i).state ≡ Neutral → (m : List ℕ) → is_message m ≡ true → SendsWhole s i m
sends_whole s w i h speaks neutral m message = all_out_law s w i h speaks neutral m message

-- what goes out, on a fresh line of a gateway of ours that has the room: 1, 2 to each frame but the last, 4 and 5, and the message is stored, byte for byte and once
pub order_delivered : (s : State) → Intact s → (i : ℕ) → i < lines → dialogue_at s.gateway i ≡ Frames → (line_at s.gateway i).state ≡ Neutral → (m : List ℕ) → is_message m ≡ true
    → (t : State) (a : Intact t) (l : ℕ) → l < lines → line_at t.gateway l ≡ fresh_line → HasRoom t l (m ∷ [])
    → Delivers t l (out_on (λ (r : Response). r.buffer) i (annotate step s (ordered_on i m))) (transfer_replies frame_limit (m ∷ [])) (m ∷ []) a.entries
order_delivered s w i h speaks neutral m message t a l line fresh room =
    subst (λ (bs : List ℕ). Delivers t l bs (transfer_replies frame_limit (m ∷ [])) (m ∷ []) a.entries) (sym (sends_whole s w i h speaks neutral m message).out)
    (transferred l line t a fresh (m ∷ []) (message, tt) room)

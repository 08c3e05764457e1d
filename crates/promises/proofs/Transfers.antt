-- Demand 2: messages that we cut and send on a fresh line, with room for them, are stored byte for byte, once each, in their order.
-- Assumes nothing.
use mathlib.Core.Path.{◌≡◌, refl, sym, ap, ap₂, subst, ◌∙◌}
use mathlib.Core.Logic.{◌≢◌}
use mathlib.Core.Bool.{true}
use mathlib.Core.List.{List, [], ◌∷◌, ◌++◌, append_assoc, append-nil}
use Prim.Native.Nat.{ℕ, ◌<◌}
use native.Mathlib.Omega.{arith}
use lib.ListN.{length}
use Rattle.memory.specs.Sizes.{lines, frame_limit}
use Rattle.memory.proofs.Parts.{part_start}
use Rattle.digits.specs.Number.{first_number, next_number}
use Rattle.framing.specs.Writing.{frame_of}
use Rattle.faults.specs.Message.{is_message}
use Rattle.faults.proofs.Messages.{message_some, message_short}
use Rattle.frame.specs.Piece.{Piece}
use Rattle.pieces.specs.Pieces.{pieces_of}
use Rattle.framing.specs.Frames.{frames_from}
use Rattle.cutting.specs.Frames.{cut_of}
use Rattle.settings.specs.Settings.{standard_settings}
use Rattle.settings.specs.declared.Settings.{Settings}
use Rattle.settings.specs.declared.Dialogue.TheVariants.{Frames}
use Rattle.strips.specs.Readers.{Memo}
use Rattle.line.specs.Line.{started_line, fresh_line, opened_line, closed_line}
use Rattle.characters.specs.Control.{enq, eot}
use Rattle.line.specs.declared.Line.{Line}
use Rattle.answers.specs.declared.Answer.TheVariants.{Opened, Ended}
use Rattle.line.proofs.Closed.{closed_started}
use Rattle.header.specs.Header.{entry_size}
use Rattle.header.specs.Entry.{Entry}
use Rattle.room.specs.Room.{todays_shares, fits, raised}
use Rattle.journal_laws.specs.Held.{Held}
use Rattle.journal_laws.specs.Runs.{State as Store}
use Rattle.journal_laws.proofs.Cases.{held_judged}
use Rattle.looking.specs.Inner.Ready.{Own}
use Rattle.gateway.specs.Events.{line_at, dialogue_at}
use Rattle.looking.specs.Looks.{byte_look, neutral_look, waiting_look}
use Rattle.receiving.specs.Verdicts.{own_work}
use Rattle.looking.specs.declared.Kind.{Kind}
use Rattle.looking.specs.declared.Kind.TheVariants.{Byte}
use Rattle.looking.proofs.Views.{own_parts}
use Rattle.serial.specs.Serial.{final, Every}
use Rattle.promises.specs.Machine.{State, Response, response, step, Parts, parts_of, store_of, Sound, May, came}
use Rattle.promises.specs.Inner.ByParts.{on_frames}
use Rattle.promises.specs.Sending.{bytes_on, answers_by, replies, sending, sending_replies, pieces_of_all, transfer, replies_to_all, transfer_replies, new_entries, Messages, sizes_of, HasRoom, Intact, Delivers, Demand2, Usable}
use Rattle.promises.proofs.Framed.{ready as is_ready_law, framed_answer, framed_own, framed_others, framed_journal}
use Rattle.promises.proofs.Sound.{sound_intact}
use Rattle.promises.proofs.Dialogues.{still_frames}
use Rattle.promises.proofs.Kept.{keeps}
use Rattle.promises.proofs.Runs.{stays_sound}
use Rattle.promises.proofs.Feeding.{feed, ready}
use Rattle.promises.proofs.Delivered.{Open, Going}
use Rattle.promises.proofs.Walk.{number_after, Delivered, walk}
use Rattle.promises.proofs.Every.{every_both}
use Rattle.promises.proofs.Rooms.{room_first, room_then, stored_all, stored_append, room_before, room_after, held_all, room_held, room_sound}

-- ---- bytes on one line

-- they are told by the line's parts and the store, and leave the other lines
record Fed (s : State) (i : ℕ) (bs : List ℕ) : Type 0 where
  answers : answers_by step s (bytes_on i bs) ≡ (feed i (parts_of s i) (store_of s) bs).0
  own : parts_of (final step s (bytes_on i bs)) i ≡ (feed i (parts_of s i) (store_of s) bs).1
  store : store_of (final step s (bytes_on i bs)) ≡ (feed i (parts_of s i) (store_of s) bs).2
  others : (l : ℕ) → l ≢ i → parts_of (final step s (bytes_on i bs)) l ≡ parts_of s l

fed : (s : State) (i : ℕ) (bs : List ℕ) → Sound s → i < lines → dialogue_at s.gateway i ≡ Frames → Fed s i bs
fed s i [] w h speaks = record { answers = refl; own = refl; store = refl; others = λ l n. refl }
fed s i (b ∷ bs) w h speaks =
    let k : Kind = Byte b in
    let r = fed (step s (came i k)).1 i bs (keeps s (came i k) w h) h (still_frames s (came i k) i speaks) in
    let v = sound_intact s w in
    let parts = framed_own s v i k h speaks in
    let store = framed_journal s v i k h speaks in
    record {
      answers = ap₂ (λ (t : Response) (ts : List Response). t ∷ ts) (framed_answer s v i k h speaks) (r.answers ∙ ap₂ (λ (p : Parts) (j : Store). (feed i p j bs).0) parts store);
      own = r.own ∙ ap₂ (λ (p : Parts) (j : Store). (feed i p j bs).1) parts store;
      store = r.store ∙ ap₂ (λ (p : Parts) (j : Store). (feed i p j bs).2) parts store;
      others = λ l n. r.others l n ∙ framed_others s v i k h speaks l n;
    }

pub bytes_may : (i : ℕ) → i < lines → (bs : List ℕ) → Every May (bytes_on i bs)
bytes_may i h [] = tt
bytes_may i h (b ∷ bs) = (h, bytes_may i h bs)

final_append : (s : State) (i : ℕ) (bs cs : List ℕ) → final step s (bytes_on i (bs ++ cs)) ≡ final step (final step s (bytes_on i bs)) (bytes_on i cs)
final_append s i [] cs = refl
final_append s i (b ∷ bs) cs = final_append (step s (came i (Byte b))).1 i bs cs

answers_append : (s : State) (i : ℕ) (bs cs : List ℕ)
    → answers_by step s (bytes_on i (bs ++ cs)) ≡ answers_by step s (bytes_on i bs) ++ answers_by step (final step s (bytes_on i bs)) (bytes_on i cs)
answers_append s i [] cs = refl
answers_append s i (b ∷ bs) cs =
    let r = step s (came i (Byte b)) in
    ap (λ (ts : List Response). r.0 ∷ ts) (answers_append r.1 i bs cs)

-- what bytes come to: the answers, the texts stored, and the line's record then
record Went (s : State) (i : ℕ) (bs : List ℕ) (ts : List Response) (ms : List (List ℕ)) (Line-then : Line → Type 0) : Type 0 where
  answers : answers_by step s (bytes_on i bs) ≡ ts
  store : store_of (final step s (bytes_on i bs)) ≡ stored_all i ms (store_of s)
  others : (l : ℕ) → l ≢ i → parts_of (final step s (bytes_on i bs)) l ≡ parts_of s l
  line : Line-then (line_at (final step s (bytes_on i bs)).gateway i)
  sound : Sound (final step s (bytes_on i bs))

-- and then others
went_on : (s : State) (i : ℕ) (bs cs : List ℕ) (ts us : List Response) (ms ns : List (List ℕ)) (P Q : Line → Type 0)
    → Went s i bs ts ms P → Went (final step s (bytes_on i bs)) i cs us ns Q → Went s i (bs ++ cs) (ts ++ us) (ms ++ ns) Q
went_on s i bs cs ts us ms ns P Q x y =
    let then = final_append s i bs cs in
    record {
      answers = answers_append s i bs cs ∙ ap₂ ◌++◌ x.answers y.answers;
      store = ap store_of then ∙ y.store ∙ ap (stored_all i ns) x.store ∙ sym (stored_append i ms ns (store_of s));
      others = λ l n. ap (λ (t : State). parts_of t l) then ∙ y.others l n ∙ x.others l n;
      line = subst (λ (t : State). Q (line_at t.gateway i)) (sym then) y.line;
      sound = subst Sound (sym then) y.sound;
    }

-- ---- ENQ, the frames of a message, EOT

opens : (i : ℕ) (texts frames : List ℕ) (memo : Memo) (j : Store)
    → on_frames i (record { line = fresh_line; texts = texts; frames = frames; memo = memo }) (Byte enq) j
    ≡ (response Opened [], record { line = opened_line fresh_line; texts = texts; frames = frames; memo = memo }, j)
unfolding own_work byte_look neutral_look
opens i texts frames memo j = refl

closes : (i : ℕ) (l : Line) (texts frames : List ℕ) (memo : Memo) (j : Store) → l.joined ≡ 0
    → on_frames i (ready i j memo l texts frames) (Byte eot) j ≡ (response Ended [], record { line = closed_line (ready i j memo l texts frames).line; texts = texts; frames = frames; memo = memo }, j)
unfolding own_work byte_look waiting_look
closes i l texts frames memo j h = rw h

-- where a line opens a transfer, it is open for frame 1
opened_open : (l : Line) → l.settings ≡ standard_settings → Open first_number (opened_line l)
opened_open l speaks = record { waits = refl; speaks = speaks; joined = refl; refusing = refl; new = refl; next = refl; low = omega arith }

module _ (limit : ℕ) (usable : Usable limit) (i : ℕ) (h : i < lines) where
  -- one byte, by the line's parts
  one_byte : (s : State) (b : ℕ) (t : Response) (p : Parts) (Line-then : Line → Type 0) → Sound s → dialogue_at s.gateway i ≡ Frames → on_frames i (parts_of s i) (Byte b) (store_of s) ≡ (t, p, store_of s) → Line-then p.line
      → Went s i (b ∷ []) (t ∷ []) [] Line-then
  one_byte s b t p Line-then w speaks is l =
      let f = fed s i (b ∷ []) w h speaks in
      record {
        answers = f.answers ∙ ap (λ (r : Response × Parts × Store). r.0 ∷ []) is;
        store = f.store ∙ ap (λ (r : Response × Parts × Store). r.2) is;
        others = f.others;
        line = subst (λ (q : Parts). Line-then q.line) (sym (f.own ∙ ap (λ (r : Response × Parts × Store). r.1) is)) l;
        sound = stays_sound s (bytes_on i (b ∷ [])) w (bytes_may i h (b ∷ []));
      }

  opening : (s : State) → Sound s → line_at s.gateway i ≡ fresh_line → Went s i (enq ∷ []) (response Opened [] ∷ []) [] (Open first_number)
  opening s w fresh =
      let texts = (parts_of s i).texts in
      let frames = (parts_of s i).frames in
      let memo = (parts_of s i).memo in
      let is = ap (λ (l : Line). on_frames i (record { line = l; texts = texts; frames = frames; memo = memo }) (Byte enq) (store_of s)) fresh ∙ opens i texts frames memo (store_of s) in
      one_byte s enq (response Opened []) (record { line = opened_line fresh_line; texts = texts; frames = frames; memo = memo }) (Open first_number) w
      (ap (λ (l : Line). l.settings.dialogue) fresh) is (opened_open fresh_line refl)

  closing : (s : State) (number : ℕ) → Sound s → Open number (line_at s.gateway i) → Went s i (eot ∷ []) (response Ended [] ∷ []) [] (λ (l : Line). l ≡ fresh_line)
  closing s number w o =
      let texts = (parts_of s i).texts in
      let frames = (parts_of s i).frames in
      let memo = (parts_of s i).memo in
      let is =
      ap (λ (l : Line). on_frames i (record { line = l; texts = texts; frames = frames; memo = memo }) (Byte eot) (store_of s)) o.waits
      ∙ closes i (line_at s.gateway i) texts frames memo (store_of s) o.joined in
      let old = (ready i (store_of s) memo (line_at s.gateway i) texts frames).line in
      one_byte s eot (response Ended []) (record { line = closed_line old; texts = texts; frames = frames; memo = memo }) (λ (l : Line). l ≡ fresh_line) w
      (ap (λ (t : Settings). t.dialogue) o.speaks) is (closed_started old ∙ ap started_line o.speaks)

  module _ (s : State) (w : Sound s) (number : ℕ) (o : Open number (line_at s.gateway i)) (m : List ℕ) (message : is_message m ≡ true)
      (room : fits todays_shares (raised s.gateway.ledger.used i (entry_size (length m))) ≡ true) where
    abbrev own : Line
    own = line_at s.gateway i

    abbrev texts : List ℕ
    texts = (parts_of s i).texts

    abbrev frames : List ℕ
    frames = (parts_of s i).frames

    speaks : dialogue_at s.gateway i ≡ Frames
    speaks = ap (λ (t : Settings). t.dialogue) o.speaks

    parts : Own own texts frames
    parts = own_parts own i s.memory.unfinished s.memory.frames (is_ready_law s (sound_intact s w) i (Byte enq) h speaks)

    going : Going [] m number own texts frames
    going = record {
      speaks = o.speaks;
      message = message;
      refusing = o.refusing;
      new = o.new;
      next = o.next;
      low = o.low;
      joined = o.joined;
      texts_long = parts.texts_long;
      frames_long = parts.frames_long;
      held = part_start texts 0;
    }

    walked : Delivered i (store_of s) m (pieces_of limit m) (number_after number (pieces_of limit m))
        (feed i (parts_of s i) (store_of s) (frames_from number (pieces_of limit m)))
    walked =
        let some = message_some _ m message in
        let most = message_short _ m message in
        let judged = sym (held_judged todays_shares s.gateway.ledger i m s.memory.journal w.entries w.held h some most true room) in
        subst
        (λ (l : Line). Delivered i (store_of s) m (pieces_of limit m) (number_after number (pieces_of limit m))
        (feed i (record { line = l; texts = texts; frames = frames; memo = (parts_of s i).memo }) (store_of s) (frames_from number (pieces_of limit m))))
        (sym o.waits) (walk limit usable i (store_of s) (parts_of s i).memo (length m) [] m number own texts frames (omega arith) some going judged)

    one_message : Went s i (frames_from number (pieces_of limit m)) (replies (pieces_of limit m)) (m ∷ []) (Open (number_after number (pieces_of limit m)))
    one_message =
        let f = fed s i (frames_from number (pieces_of limit m)) w h speaks in
        record {
          answers = f.answers ∙ walked.answers;
          store = f.store ∙ walked.store;
          others = f.others;
          line = subst (λ (p : Parts). Open (number_after number (pieces_of limit m)) p.line) (sym f.own) walked.line;
          sound = stays_sound s (bytes_on i (frames_from number (pieces_of limit m))) w (bytes_may i h (frames_from number (pieces_of limit m)));
        }

  -- ---- any number of messages in one transfer

  frames_append : (number : ℕ) (ps qs : List Piece) → frames_from number (ps ++ qs) ≡ frames_from number ps ++ frames_from (number_after number ps) qs
  frames_append number [] qs = refl
  frames_append number (p ∷ ps) qs =
      ap (λ (bs : List ℕ). frame_of number p.end p.bytes ++ bs) (frames_append (next_number number) ps qs)
      ∙ sym (append_assoc (frame_of number p.end p.bytes) (frames_from (next_number number) ps) (frames_from (number_after (next_number number) ps) qs))

  after_append : (number : ℕ) (ps qs : List Piece) → number_after number (ps ++ qs) ≡ number_after (number_after number ps) qs
  after_append number [] qs = refl
  after_append number (p ∷ ps) qs = after_append (next_number number) ps qs

  all_messages : (ms : List (List ℕ)) (s : State) → Sound s → (number : ℕ) → Open number (line_at s.gateway i) → Messages ms → HasRoom s i ms
      → Went s i (frames_from number (pieces_of_all limit ms)) (replies_to_all limit ms) ms (Open (number_after number (pieces_of_all limit ms)))
  all_messages [] s w number o are room = record { answers = refl; store = refl; others = λ l n. refl; line = o; sound = w }
  all_messages (m ∷ ms) s w number o are room =
      let ps = pieces_of limit m in
      let first = room_first todays_shares s.gateway.ledger.used i (entry_size (length m)) (sizes_of ms) w.held.lines_used h room in
      let one = one_message s w number o m are.0 first in
      let room-left =
      ap (λ (j : Store). fits todays_shares (raised j.ledger.used i (sizes_of ms))) one.store
      ∙ room_then i m ms (store_of s) w.held.lines_used h room in
      let rest = all_messages ms (final step s (bytes_on i (frames_from number ps))) one.sound (number_after number ps) one.line are.1 room-left in
      let both = went_on s i (frames_from number ps) (frames_from (number_after number ps) (pieces_of_all limit ms)) (replies ps) (replies_to_all limit ms) (m ∷ []) ms _ _ one rest in
      subst (λ (n : ℕ). Went s i (frames_from number (ps ++ pieces_of_all limit ms)) (replies_to_all limit (m ∷ ms)) (m ∷ ms) (Open n)) (sym (after_append number ps (pieces_of_all limit ms)))
      (subst (λ (bs : List ℕ). Went s i bs (replies_to_all limit (m ∷ ms)) (m ∷ ms) (Open (number_after (number_after number ps) (pieces_of_all limit ms))))
      (sym (frames_append number ps (pieces_of_all limit ms))) both)

  whole_transfer : (ms : List (List ℕ)) (s : State) → Sound s → line_at s.gateway i ≡ fresh_line → Messages ms → HasRoom s i ms
      → Went s i (transfer limit ms) (transfer_replies limit ms) ms (λ (l : Line). l ≡ fresh_line)
  whole_transfer ms s w fresh are room =
      let a = opening s w fresh in
      let s₁ = final step s (bytes_on i (enq ∷ [])) in
      let room_then = ap (λ (j : Store). fits todays_shares (raised j.ledger.used i (sizes_of ms))) a.store ∙ room in
      let b = all_messages ms s₁ a.sound first_number a.line are room_then in
      let bs = frames_from first_number (pieces_of_all limit ms) in
      let c = closing (final step s₁ (bytes_on i bs)) (number_after first_number (pieces_of_all limit ms)) b.sound b.line in
      let bc = went_on s₁ i bs (eot ∷ []) (replies_to_all limit ms) (response Ended [] ∷ []) ms [] _ _ b c in
      let abc = went_on s i (enq ∷ []) (bs ++ (eot ∷ [])) (response Opened [] ∷ []) (replies_to_all limit ms ++ (response Ended [] ∷ [])) [] (ms ++ []) _ _ a bc in
      subst (λ (ns : List (List ℕ)). Went s i (transfer limit ms) (transfer_replies limit ms) ns (λ (l : Line). l ≡ fresh_line)) (append-nil ms) abc

  -- ---- the promises

  delivers : (s : State) (es : List Entry) → Held todays_shares s.gateway.ledger s.memory.journal es → (bs : List ℕ) (ts : List Response) (ms : List (List ℕ)) (P : Line → Type 0)
      → Went s i bs ts ms P → Messages ms → HasRoom s i ms → Delivers s i bs ts ms es
  delivers s es held bs ts ms P x are room = record {
    answered = x.answers;
    held =
        subst (λ (j : Store). Held todays_shares j.ledger j.journal (es ++ new_entries s.gateway.ledger i ms)) (sym x.store)
        (held_all i h ms (store_of s) es held are room);
    others = x.others;
  }

  module _ (s : State) (a : Intact s) (fresh : line_at s.gateway i ≡ fresh_line) where
    -- the promises below, of every limit that is usable
    pub sent_within : (m : List ℕ) → is_message m ≡ true → HasRoom s i (m ∷ []) → Delivers s i (sending limit m) (sending_replies limit m) (m ∷ []) a.entries
    unfolding cut_of
    sent_within m message room =
        let w = room_sound s a i h (m ∷ []) room in
        let o = opening s w fresh in
        let s₁ = final step s (bytes_on i (enq ∷ [])) in
        let room_then = ap (λ (j : Store). fits todays_shares (raised j.ledger.used i (sizes_of (m ∷ [])))) o.store ∙ room in
        let first = room_first todays_shares s₁.gateway.ledger.used i (entry_size (length m)) 0 o.sound.held.lines_used h room_then in
        let b = one_message s₁ o.sound first_number o.line m message first in
        let ob = went_on s i (enq ∷ []) (frames_from first_number (pieces_of limit m)) (response Opened [] ∷ []) (replies (pieces_of limit m)) [] (m ∷ []) _ _ o b in
        delivers s a.entries (room_held s a i h (m ∷ []) room) (sending limit m) (sending_replies limit m) (m ∷ []) _ ob (message, tt) room

    pub transferred_within : (ms : List (List ℕ)) → Messages ms → HasRoom s i ms → Delivers s i (transfer limit ms) (transfer_replies limit ms) ms a.entries
    transferred_within ms are room =
        let w = room_sound s a i h ms room in
        delivers s a.entries (room_held s a i h ms room) (transfer limit ms) (transfer_replies limit ms) ms _ (whole_transfer ms s w fresh are room) are room

    pub twice_within : (ms ns : List (List ℕ)) → Messages ms → Messages ns → HasRoom s i (ms ++ ns)
        → Delivers s i (transfer limit ms ++ transfer limit ns) (transfer_replies limit ms ++ transfer_replies limit ns) (ms ++ ns) a.entries
    twice_within ms ns are are' room =
        let w = room_sound s a i h (ms ++ ns) room in
        let x = whole_transfer ms s w fresh are (room_before i ms ns (store_of s) a.lines_used h room) in
        let room-left =
        ap (λ (j : Store). fits todays_shares (raised j.ledger.used i (sizes_of ns))) x.store
        ∙ room_after i ms ns (store_of s) a.lines_used h room in
        let y = whole_transfer ns (final step s (bytes_on i (transfer limit ms))) x.sound x.line are' room-left in
        delivers s a.entries (room_held s a i h (ms ++ ns) room) (transfer limit ms ++ transfer limit ns) (transfer_replies limit ms ++ transfer_replies limit ns) (ms ++ ns) _
        (went_on s i (transfer limit ms) (transfer limit ns) (transfer_replies limit ms) (transfer_replies limit ns) ms ns _ _ x y) (every_both (λ (t : List ℕ). is_message t ≡ true) ms ns are are') room

-- what hosts are promised: frames are cut within the line's own limit
own_limit : Usable frame_limit
own_limit = record { some = omega arith; most = omega arith }

-- a message, cut, on a fresh line that has the room: 1, then 0 to each byte within a frame, 2 to each frame but the last and 4 to the last;
-- it is stored byte for byte, once, under the line's next serial
pub sent : Demand2 step
sent = sent_within frame_limit own_limit

module _ (i : ℕ) (h : i < lines) (s : State) (a : Intact s) (fresh : line_at s.gateway i ≡ fresh_line) where
  -- any number of messages in one transfer
  pub transferred : (ms : List (List ℕ)) → Messages ms → HasRoom s i ms → Delivers s i (transfer frame_limit ms) (transfer_replies frame_limit ms) ms a.entries
  transferred = transferred_within frame_limit own_limit i h s a fresh

  -- and in two transfers, one after the other
  pub transferred_twice : (ms ns : List (List ℕ)) → Messages ms → Messages ns → HasRoom s i (ms ++ ns)
      → Delivers s i (transfer frame_limit ms ++ transfer frame_limit ns) (transfer_replies frame_limit ms ++ transfer_replies frame_limit ns) (ms ++ ns) a.entries
  transferred_twice = twice_within frame_limit own_limit i h s a fresh

  -- two messages, one after the other, in one transfer and in two: stored in order, once each
  module _ (m n : List ℕ) (m-is : is_message m ≡ true) (n-is : is_message n ≡ true) (room : HasRoom s i (m ∷ n ∷ [])) where
    pub in_one_transfer : Delivers s i (transfer frame_limit (m ∷ n ∷ [])) (transfer_replies frame_limit (m ∷ n ∷ [])) (m ∷ n ∷ []) a.entries
    in_one_transfer = transferred (m ∷ n ∷ []) (m-is, (n-is, tt)) room

    pub in_two_transfers : Delivers s i (transfer frame_limit (m ∷ []) ++ transfer frame_limit (n ∷ [])) (transfer_replies frame_limit (m ∷ []) ++ transfer_replies frame_limit (n ∷ [])) (m ∷ n ∷ []) a.entries
    in_two_transfers = transferred_twice (m ∷ []) (n ∷ []) (m-is, tt) (n-is, tt) room

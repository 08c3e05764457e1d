-- What is claimed, in one record, of the functions that hosts call. `kept` (proofs/Demands) is a value of it: every field is proved.
-- `host_step s e` is a call: the answer to an event or a taking e, and every number and byte that the host keeps then, where it kept s before (specs/HostRuns).
-- A `Run` is a start, with what each line speaks and memory of the right sizes whatever it holds, and then any calls, events and starts of sendings on lines 0 to 7 and takings
-- from any line. A line speaks frames, or the blocks of a strip reader: where a promise is about one of these it says so.
-- Answers are a host's own numbers. What a text needs, and whether there is room, is asked of the gateway that these numbers stand for (`gateway_state`).
-- Assumes nothing.
use Rattle.std.specs.Prelude.{ℕ, ◌+◌, ◌≤◌, ◌<◌, ◌≡◌, ◌≢◌, Bool, true, false, List, [], ◌∷◌, ◌++◌, length, get_or, Some}
use Rattle.memory.specs.Sizes.{lines, frame_limit}
use Rattle.characters.specs.Control.{stx, eot}
use Rattle.pieces.specs.Pieces.{pieces_of}
use Rattle.gateway.specs.Out.{sends}
use Rattle.kinds.specs.Delimiters.{standard, four_at, delimiters_of, are_delimiters}
use Rattle.faults.specs.Message.{is_message_by, is_message}
use Rattle.header.specs.Header.{entry_size}
use Rattle.room.specs.Room.{share}
use Rattle.journal_laws.specs.Runs.{waiting}
use Rattle.answers.specs.Paper.{ack}
use Rattle.settings.specs.declared.Patient.{Patient}
use Rattle.block.specs.Layouts.{mor, rep}
use Rattle.block.specs.Judged.{judged_of}
use Rattle.block.specs.Controls.{control_bytes}
use Rattle.block.specs.declared.Judged.{Judged}
use Rattle.block.specs.declared.Judged.TheVariants.{Results}
use Rattle.finding.specs.Findings.{finding_of}
use Rattle.finding_laws.specs.Says.{Says}
use Rattle.strips.specs.Readers.{is_again}
use Rattle.looking.specs.declared.Kind.{Kind}
use Rattle.receiving.specs.Steps.{Memory}
use Rattle.serial.specs.Serial.{event, taking, annotate, final, serialize, count, Every, OrderOf, GoesAlike}
use Rattle.serial.specs.Kept.{only, is_of, Rearranged}
use Rattle.promises.specs.Machine.{Coming, GatewayItem, came, starting, May}
use Rattle.promises.specs.Orders.{ordered_on, is_ack, EotTells, longest, ticks}
use Rattle.promises.specs.Clean.{WrongAt}
use Rattle.promises.specs.Readers.{number_for, out_for, LastOf}
use Rattle.promises.specs.Runs.{RightSizes, is_damage, is_results, offered, Completes, Overfull, NoSpace, Space, Larger, used_by, used_with, most_alone}
use Rattle.layout.specs.Layout.{frames, Fresh, can_start, Started, serial_at, speaks_at, number_at}
use Rattle.numbers.specs.Plain.{line_of}
use Rattle.calls.specs.Calls.{HostState}
use Rattle.ngachodui_laws.specs.Hosting.{is_refusal}
use Rattle.ngachodui_laws.specs.HostRuns.{gateway_state, started_host, fresh_host, begin_of, HostResponse, host_step, number_to, reply_to, after, decides, Run, history_of, end_of}
use Rattle.ngachodui_laws.specs.Sound.{Intact, Sound}
use Rattle.ngachodui_laws.specs.Outcomes.{StartedAs, Allows, ignores, line_in, LineKept, StoreKept}
use Rattle.ngachodui_laws.specs.Deciding.{DecidedExactly}
use Rattle.ngachodui_laws.specs.Queue.{all_taken, NothingLost, OnlyMessages}
use Rattle.ngachodui_laws.specs.Sending.{CanSend, sent_to, Delivered, GivesBack}
use Rattle.ngachodui_laws.specs.Orders.{CanStart, sent_on, SentWhole, SentAmong, OrderTaken, SentSparingly, acknowledgements, neutral_along, FetchedAs}
use Rattle.ngachodui_laws.specs.Readers.{EndsBlock, ended_block, memo_on, sent_with, NotStored, stored_with, ToReader, RightControl}
use Rattle.ngachodui_laws.specs.Texts.{Cut, Readable, ComesBack, GoesBack}
use Rattle.ngachodui_laws.specs.Freed.{taken_then, Frees, Alone}

-- each field is one promise; its type says what it assumes [P8]
pub record Demands : Type 0 where
  -- ---- 1. Every call has one outcome

  -- Whatever numbers and memory a host hands over, the contract of a call allows one answer, and one value of every number and byte after it.
  pub one_outcome : (s : HostState) (e : GatewayItem) (r q : HostResponse) (t u : HostState) → Allows s e r t → Allows s e q u → (r ≡ q) × (t ≡ u)
  --
  -- That outcome is `host_step`, so whatever is said of `host_step` here is said of the calls.
  pub the_outcome : (s : HostState) (e : GatewayItem) → Allows s e (host_step s e).0 (host_step s e).1
  --
  -- What makes a gateway fresh leaves the numbers of `fresh_host`, and no others.
  pub fresh_outcome : (m : Memory) (ns us : List ℕ) → Fresh ns us → ◌≡◌ {A = HostState} (record { numbers = ns; counts = us; memory = m }) (fresh_host m)
  --
  -- A start with what each line speaks is answered 0 and leaves the numbers of `started_host`, and no others; where one of them is nothing that a line can speak it is answered 42
  -- and changes nothing.
  pub started_outcome : (speaks ns us : List ℕ) (r : ℕ) (ns' us' : List ℕ) → Started speaks ns us r ns' us' → can_start speaks ≡ true → (m : Memory) → StartedAs speaks m r ns' us'
  pub unstarted_leaves : (speaks ns us : List ℕ) (r : ℕ) (ns' us' : List ℕ) → Started speaks ns us r ns' us' → can_start speaks ≡ false → (r ≡ 42) × (ns' ≡ ns) × (us' ≡ us)
  --
  -- No call of a run finds memory of another size, a record beyond its limits or a broken journal: 41, 42 and 43 do not come. Nor does 30, as
  -- every frame's text is of allowed bytes; and to an event 54 comes from no state at all, as a text that is complete ends with CR.
  pub never_damaged : (r : Run) → Every (λ x. is_damage x.1.answered.number ≡ false) (history_of r)
  pub never_30 : (r : Run) → Every (λ x. x.1.answered.number ≢ 30) (history_of r)
  pub never_54 : (s : HostState) (i : ℕ) (k : Kind) → number_to s (came i k) ≢ 54
  --
  -- After every run what the host keeps is sound: numbers in order, memory of the right sizes, and a whole journal that keeps each line's share.
  pub always_sound : (r : Run) → Sound (end_of r)
  --
  -- A call that is refused (20, 40 to 47, 60) changes no number and no byte, from any state at all; a refused taking leaves its buffer too. Nor does any start that is
  -- not answered 9.
  pub refusal_leaves : (s : HostState) (e : GatewayItem) → is_refusal (number_to s e) ≡ true → after s e ≡ s
  pub start_leaves : (s : HostState) (i : ℕ) (text : List ℕ) → number_to s (starting i text) ≢ sends → after s (starting i text) ≡ s
  pub buffer_left : (s : HostState) (i : ℕ) (b : List ℕ) → is_refusal (number_to s (taking i b)) ≡ true → (host_step s (taking i b)).0.buffer ≡ b
  --
  -- Nor does an event that its line ignores.
  pub ignored_leaves : (s : HostState) (i : ℕ) (k : Kind) → ignores (line_of s.numbers i) k ≡ true → after s (came i k) ≡ s
  --
  -- A call on one line leaves every other line its numbers, its last stored block, its used count and its parts of the memory, from any state at all.
  pub others_kept : (s : HostState) (e : GatewayItem) (l : ℕ) → l < lines → l ≢ line_in e → LineKept l s (after s e)
  --
  -- No call changes what any line speaks, from any state at all.
  pub speaks_kept : (s : HostState) (e : GatewayItem) (l : ℕ) → l < lines → number_at (after s e).numbers l speaks_at ≡ number_at s.numbers l speaks_at
  --
  -- An event that completes a text is answered 4 exactly if the text is a message and there is room for it, 31 exactly if it is one and there is none, and the number
  -- of a fault with a place exactly if that is the first thing wrong with it, at the record of that place: after every run, and wherever numbers, memory and journal
  -- are intact.
  pub decided_exactly : (s : HostState) → Intact s → (i : ℕ) → i < lines → (k : Kind) (text : List ℕ) → offered (gateway_state s) i k ≡ Some text → DecidedExactly s i k text
  --
  -- After every run a text that an event completes and that is no message is wrong at one of its records: the place is 1 at least, and at most as many as there are.
  pub wrong_at : (r : Run) (i : ℕ) → i < lines → (k : Kind) (text : List ℕ) → offered (gateway_state (end_of r)) i k ≡ Some text → is_message text ≡ false → WrongAt text
  --
  -- ---- 2. What we cut and send is stored, and given back

  -- A message that is handed over to be cut, with memory for its frames, is cut into `cut_of`, and nothing else is written.
  pub cut_whole : (m : List ℕ) → is_message m ≡ true → Cut m
  --
  -- Send ENQ and then a message's frames, as we cut them, to a line that is fresh and has the room. The answers are 1; 0 within a frame; 2 at the end of each frame
  -- but the last; 4 at the end of that. The journal then holds one entry more, behind the others: the message, byte for byte, under the line's next serial.
  pub sent : (s : HostState) (i : ℕ) (m : List ℕ) (c : CanSend s i m) → Delivered s i m c.intact.entries
  --
  -- Once as many texts are taken from the line as waited there before, whatever else has come meanwhile on any line, the next taking into a buffer that is long
  -- enough gives the message: its length and serial in the answer, its bytes at the buffer's start.
  pub given_back : (s : HostState) (i : ℕ) (m : List ℕ) (c : CanSend s i m) (es : List GatewayItem) → Every May es
      → length (all_taken i (annotate host_step (sent_to s i m) es)) ≡ length (waiting i c.intact.entries) → (b : List ℕ) → length m ≤ length b
      → GivesBack (final host_step (sent_to s i m) es) i b (number_at s.numbers i serial_at) m
  --
  -- On a start every line that speaks frames can be sent every message.
  pub can_send : (speaks : List ℕ) → length speaks ≡ lines → can_start speaks ≡ true → (m : Memory) → RightSizes m → (i : ℕ) → i < lines → get_or speaks i 0 ≡ frames
      → (t : List ℕ) → is_message t ≡ true → CanSend (started_host speaks m) i t
  --
  -- ---- 3. How the lines' calls are mixed makes no difference

  -- A stretch is a line's events from behind one decided text (4, 30, 31, a fault) through the next. Tell a run again stretch by stretch, none divided, in the order in
  -- which the texts were decided, the takings among these where they were, and the lines' rests last, in any order of the lines. Every call then gets the same
  -- answer, a taking the same buffer, and the host ends with the same numbers and bytes.
  pub stretches : (r : Run) (order : List ℕ) → OrderOf lines order → (zs : List (GatewayItem × HostResponse)) → Rearranged decides lines order (history_of r) zs
      → GoesAlike host_step (begin_of r) r.calls zs
  --
  -- There is such a telling, and `serialize` computes it.
  pub stretches_met : (r : Run) (order : List ℕ) → OrderOf lines order → Rearranged decides lines order (history_of r) (serialize decides order (history_of r))
  --
  -- Every call with its answer stands in it as often as in the run.
  pub stretches_all : (r : Run) (order : List ℕ) → OrderOf lines order → (zs : List (GatewayItem × HostResponse)) → Rearranged decides lines order (history_of r) zs
      → (p : GatewayItem × HostResponse → Bool) → count p zs ≡ count p (history_of r)
  --
  -- ---- Room

  -- A line's own share is its own: 31 is answered only to a message that, its header counted, exceeds what is left of its line's share.
  pub share_kept : (r : Run) (i : ℕ) → i < lines → (k : Kind) → number_to (end_of r) (came i k) ≡ 31 → Overfull (gateway_state (end_of r)) i k
  --
  -- 31 is answered only where the lines' claims, with the message, exceed the journal, and 4 only where they do not.
  pub no_space : (r : Run) (i : ℕ) → i < lines → (k : Kind) → number_to (end_of r) (came i k) ≡ 31 → NoSpace (gateway_state (end_of r)) i k
  pub space : (r : Run) (i : ℕ) → i < lines → (k : Kind) → number_to (end_of r) (came i k) ≡ 4 → Space (gateway_state (end_of r)) i k
  --
  -- Freed room serves again: after a taking of n bytes, and whatever calls store nothing, 31 is answered on that line only to a message that takes more room.
  pub freed_own : (r : Run) (l : ℕ) → l < lines → (b : List ℕ) (n : ℕ) (fs : List GatewayItem) → Every May fs → Frees (end_of r) l b n fs → (k : Kind)
      → number_to (taken_then (end_of r) l b fs) (came l k) ≡ 31 → Larger (gateway_state (taken_then (end_of r) l b fs)) l k n
  --
  -- And on any other line, where what was taken lay beyond its own line's share.
  pub freed_others : (r : Run) (l : ℕ) → l < lines → (b : List ℕ) (n : ℕ) (fs : List GatewayItem) → Every May fs → Frees (end_of r) l b n fs
      → share + entry_size n ≤ used_by (gateway_state (end_of r)) l → (i : ℕ) → i < lines → (k : Kind)
      → number_to (taken_then (end_of r) l b fs) (came i k) ≡ 31 → Larger (gateway_state (taken_then (end_of r) l b fs)) i k n
  --
  -- One line alone, where no other has stored: 31 only for a message with which the line would use more than 18,432 bytes, and 4 only for one with which it does not.
  pub alone_refused : (r : Run) (i : ℕ) → i < lines → Alone r i → (k : Kind) → number_to (end_of r) (came i k) ≡ 31
      → Completes (gateway_state (end_of r)) i k (λ n. most_alone < used_with (gateway_state (end_of r)) i n)
  pub alone_stored : (r : Run) (i : ℕ) → i < lines → Alone r i → (k : Kind) → number_to (end_of r) (came i k) ≡ 4
      → Completes (gateway_state (end_of r)) i k (λ n. used_with (gateway_state (end_of r)) i n ≤ most_alone)
  --
  -- ---- What is acknowledged is stored, and nothing is lost

  -- An event that completes a text and gets ACK is answered 4: its text is stored.
  pub acknowledged_stored : (r : Run) (i : ℕ) → i < lines → (k : Kind) → Completes (gateway_state (end_of r)) i k (λ n. Unit {0}) → reply_to (end_of r) (came i k) ≡ ack
      → number_to (end_of r) (came i k) ≡ 4
  --
  -- An event with any other answer, a repeat (3) too, leaves counts, serials and journal as they were.
  pub only_4_stores : (r : Run) (i : ℕ) → i < lines → (k : Kind) → number_to (end_of r) (came i k) ≢ 4 → StoreKept (end_of r) (after (end_of r) (came i k))
  --
  -- Nothing is lost and nothing comes twice: the texts answered 4 on a line, numbered from 0, are those that its takings gave, in order and byte for byte, and then
  -- those that wait.
  pub nothing_lost : (r : Run) → NothingLost r
  --
  -- Only messages are kept and given: each text that waits after a run is one, and each that was taken.
  pub only_messages : (r : Run) → OnlyMessages r
  --
  -- So what was taken can be read: neither 46 nor a fault comes.
  pub read_never_refused : (r : Run) (l : ℕ) → l < lines → Every (λ n. Readable n.text) (all_taken l (history_of r))
  --
  -- ---- Work orders

  -- A message that is started on a neutral line of frames, with an ACK to our ENQ and to each frame, goes out as the very bytes of its transfer: ENQ, the frames that cutting makes,
  -- EOT. The line is then as fresh, and nothing else has changed.
  pub sent_whole : (s : HostState) (i : ℕ) (m : List ℕ) → CanStart s i m → SentWhole s i m
  --
  -- It goes out so whatever comes on the other lines meanwhile, and whatever is taken: all that is asked is that the calls of its own line are these.
  pub sent_among : (r : Run) (i : ℕ) (m : List ℕ) → CanStart (end_of r) i m → (es : List GatewayItem) → Every May es → only (is_of i) es ≡ ordered_on i m
      → SentAmong (end_of r) i m es
  --
  -- So, sent to a fresh line of another gateway that has the room, it ends with the message stored there, once; and that gateway's replies are the ACKs.
  pub order_taken : (s : HostState) (i : ℕ) (m : List ℕ) → CanStart s i m → (t : HostState) (l : ℕ) (c : CanSend t l m)
      → OrderTaken t l m (sent_on i s (ordered_on i m)) c.intact.entries
  --
  -- What goes out with an answer is what the answer says, and where that is STX it is what is fetched, after every run.
  pub fetched : (r : Run) (i : ℕ) → i < lines → (c : Coming) → reply_to (end_of r) (event i c) ≡ stx
      → FetchedAs (after (end_of r) (event i c)) i (host_step (end_of r) (event i c)).0.buffer
  --
  -- In a sending, whatever comes, our ENQ goes out six times at most, and so does each frame.
  pub six_sends : (r : Run) (i : ℕ) → i < lines → (m : List ℕ) → number_to (end_of r) (starting i m) ≡ sends → (es : List GatewayItem) → Every May es
      → SentSparingly i (after (end_of r) (starting i m)) es
  --
  -- Our EOT tells whether it was acknowledged: in a sending that is not over yet, whatever has come, let our EOT go out with an event. If that is ACK, or EOT, which counts as
  -- ACK, then as many acknowledgements have come, with it, as our ENQ and the frames together are; and else fewer.
  pub eot_tells : (r : Run) (i : ℕ) → i < lines → (m : List ℕ) → number_to (end_of r) (starting i m) ≡ sends → (es : List GatewayItem) → Every May es
      → neutral_along i (after (end_of r) (starting i m)) es ≡ false → (k : Kind) → reply_to (final host_step (after (end_of r) (starting i m)) es) (came i k) ≡ eot
      → EotTells (is_ack k) (acknowledgements i (after (end_of r) (starting i m)) (es ++ (came i k ∷ []))) (1 + length (pieces_of frame_limit m))
  --
  -- And it ends: once its line was told that a second or more has passed so often, 140 times and 90 times more for each frame, whatever came between, it has been neutral.
  pub sending_ends : (r : Run) (i : ℕ) → i < lines → (m : List ℕ) → number_to (end_of r) (starting i m) ≡ sends → (es : List GatewayItem) → Every May es
      → longest (length (pieces_of frame_limit m)) ≤ ticks i es → neutral_along i (after (end_of r) (starting i m)) es ≡ true
  --
  -- ---- Strip readers

  -- A block with results that is right makes a message, and the message says what the block does: read by field and unescaped, its P has the patient number, its O the sequence
  -- number and each R the name and the rest of a result, all trimmed.
  pub block_message : (p : Patient) (block : List ℕ) → judged_of p block ≡ Results → is_message (finding_of p block) ≡ true
  pub block_says : (p : Patient) (block : List ℕ) → judged_of p block ≡ Results → Says p block (finding_of p block)
  --
  -- A block that is not one with results is answered by what it is: 70, 71 or 72 with REP; 11 with MOR to SPM and to colours, with our last reply, if any, to REP, with nothing to
  -- END. It is not stored.
  pub block_answered : (r : Run) (i : ℕ) → i < lines → (b : ℕ) (p : Patient) → EndsBlock (end_of r) i b p → (x : Judged) → judged_of p (ended_block (end_of r) i b) ≡ x
      → is_results x ≡ false → NotStored (end_of r) i b (number_for x) (out_for x (memo_on (end_of r) i).reader.reply)
  --
  -- A block with results that repeats the one stored last, after an SPM or REP of the reader, is answered 11 with MOR, and is not stored again.
  pub repeat_not_stored : (r : Run) (i : ℕ) → i < lines → (b : ℕ) (p : Patient) → EndsBlock (end_of r) i b p → judged_of p (ended_block (end_of r) i b) ≡ Results
      → is_again (memo_on (end_of r) i) (ended_block (end_of r) i b) ≡ true → NotStored (end_of r) i b 11 (control_bytes mor)
  --
  -- A block with results to which anything is sent is stored: its message is the last that was stored on its line, this event counted.
  pub more_stored : (r : Run) (i : ℕ) → i < lines → (b : ℕ) (p : Patient) → EndsBlock (end_of r) i b p → judged_of p (ended_block (end_of r) i b) ≡ Results
      → sent_with (end_of r) i b ≢ [] → LastOf (stored_with r i b) (finding_of p (ended_block (end_of r) i b))
  --
  -- Where STX is answered on a reader's line, what goes out is MOR or REP, as the numbers have our last reply; and both are right by our own tests.
  pub to_reader : (r : Run) (i : ℕ) → i < lines → number_at (end_of r).numbers i speaks_at ≢ frames → (k : Kind) → reply_to (end_of r) (came i k) ≡ stx
      → ToReader (after (end_of r) (came i k)) i (host_step (end_of r) (came i k)).0.buffer
  pub replies_right : RightControl mor × RightControl rep
  --
  -- On a reader's line, from any state at all, no event writes a byte of the unfinished texts, and no sending is started: what asks for one changes nothing.
  pub texts_kept : (s : HostState) (i : ℕ) (k : Kind) → number_at s.numbers i speaks_at ≢ frames → (after s (came i k)).memory.unfinished ≡ s.memory.unfinished
  pub no_order : (s : HostState) (i : ℕ) (text : List ℕ) → number_at s.numbers i speaks_at ≢ frames → (number_to s (starting i text) ≢ sends) × (after s (starting i text) ≡ s)
  --
  -- ---- Every message has its own delimiters

  -- A message is read by the four that its header names, and they are an allowed four. What is a message by | \ ^ & is a message, as these are the four that it names.
  pub message_four : (m : List ℕ) → is_message m ≡ true → are_delimiters (delimiters_of m) ≡ true
  pub standard_stays : (m : List ℕ) → is_message_by standard m ≡ true → is_message m ≡ true
  --
  -- With every allowed four, given the room, a text is escaped and comes back when it is unescaped; with any four a component that is unescaped comes back when its
  -- text is escaped.
  pub escaped_back : (four : List ℕ) → are_delimiters (four_at 0 four) ≡ true → (text : List ℕ) → ComesBack four text
  pub unescaped_back : (four c : List ℕ) → GoesBack four c

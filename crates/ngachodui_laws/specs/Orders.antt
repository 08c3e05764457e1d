-- Work orders, as a host sends them: what goes out, how often, how many acknowledgements come, and for how long; and that the other side has them.
-- Assumes nothing.
use Rattle.std.specs.Prelude.{ℕ, ◌+◌, ◌≤◌, ◌<◌, ◌≡◌, ◌≢◌, Bool, true, ◌&&◌, List, [], ◌∷◌, ◌++◌, map, length}
use Rattle.memory.specs.Sizes.{lines, frame_limit}
use Rattle.memory.specs.Parts.{splice}
use Rattle.characters.specs.Control.{enq, stx}
use Rattle.pieces.specs.Pieces.{pieces_of}
use Rattle.faults.specs.Message.{is_message}
use Rattle.header.specs.Entry.{Entry}
use Rattle.answers.specs.Paper.{ack}
use Rattle.answers.specs.InNumbers.{done}
use Rattle.answers.specs.declared.Made.{Made}
use Rattle.line.specs.Line.{fresh_line, most_tries}
use Rattle.line.specs.declared.State.TheVariants.{Neutral}
use Rattle.orders.specs.Starts.{is_neutral}
use Rattle.orders.specs.Calls.{Fetched}
use Rattle.gateway.specs.Out.{sends}
use Rattle.serial.specs.Serial.{annotate, final, Every}
use Rattle.promises.specs.Machine.{GatewayItem}
use Rattle.promises.specs.Sending.{bytes_on, transfer}
use Rattle.promises.specs.Orders.{out_on, ordered_on, begins_on, sends_on, offers_at, acknowledges, count_until, turns_neutral}
use Rattle.layout.specs.Layout.{frames, speaks_at, number_at}
use Rattle.numbers.specs.Plain.{line_of}
use Rattle.calls.specs.Calls.{HostState}
use Rattle.ngachodui_laws.specs.HostRuns.{HostResponse, host_step, after}
use Rattle.ngachodui_laws.specs.Outcomes.{LineKept, StoreKept}
use Rattle.ngachodui_laws.specs.Sound.{Intact, Holds}
use Rattle.ngachodui_laws.specs.Sending.{says, to_frames, entry_of}

-- line i speaks frames and is neutral, and m is a message; the other lines may be at anything
pub record CanStart (s : HostState) (i : ℕ) (m : List ℕ) : Type 0 where
  pub line : i < lines
  pub intact : Intact s
  pub speaks : number_at s.numbers i speaks_at ≡ frames
  pub neutral : (line_of s.numbers i).state ≡ Neutral
  pub message : is_message m ≡ true

-- what a host sends on line i in a run of calls
abbrev pub sent_on : ℕ → HostState → List GatewayItem → List ℕ
sent_on i s es = out_on (λ (r : HostResponse). r.buffer) i (annotate host_step s es)

-- with an ACK to our ENQ and to each frame, every call is answered 9, and all that is sent from the start on is the transfer of the message; the line is then as fresh, every
-- other line has what it had, and nothing is stored or taken
pub record SentWhole (s : HostState) (i : ℕ) (m : List ℕ) : Type 0 where
  pub answers : Every (λ x. x.1.answered.number ≡ sends) (annotate host_step s (ordered_on i m))
  pub out : sent_on i s (ordered_on i m) ≡ transfer frame_limit (m ∷ [])
  pub line : line_of (final host_step s (ordered_on i m)).numbers i ≡ fresh_line
  pub others : (l : ℕ) → l < lines → l ≢ i → LineKept l s (final host_step s (ordered_on i m))
  pub store : StoreKept s (final host_step s (ordered_on i m))

-- the same where other calls, on other lines and takings, come among these: all that is sent on the line is the transfer, and the line is then as fresh
pub record SentAmong (s : HostState) (i : ℕ) (m : List ℕ) (es : List GatewayItem) : Type 0 where
  pub out : sent_on i s es ≡ transfer frame_limit (m ∷ [])
  pub line : line_of (final host_step s es).numbers i ≡ fresh_line

-- these bytes, sent to line l of a gateway whose journal holds the entries es, get 1, then the answers to the frames, then 5, all but the last with ACK where a reply is
-- due; the journal then holds es and, behind them, the message once
pub record OrderTaken (t : HostState) (l : ℕ) (m bs : List ℕ) (es : List Entry) : Type 0 where
  pub answers : map (λ (x : GatewayItem × HostResponse). x.1) (annotate host_step t (bytes_on l bs)) ≡ says 1 ack ∷ (to_frames (pieces_of frame_limit m) ++ (says 5 0 ∷ []))
  pub holds : Holds (final host_step t (bytes_on l bs)) (es ++ (entry_of t l m ∷ []))

-- how often, from here to the next sending on line i, our ENQ goes out there, and the frame whose text starts at this place
abbrev pub begins : ℕ → GatewayItem → HostResponse → Bool
begins i e r = begins_on i e r.answered.number

abbrev pub enquiries : ℕ → HostState → List GatewayItem → ℕ
enquiries i s es = count_until host_step (begins i) (λ e r t. sends_on enq i e r.answered.number r.answered.reply) s es

abbrev pub frames_at : ℕ → ℕ → HostState → List GatewayItem → ℕ
frames_at i at s es =
    count_until host_step (begins i) (λ e r t. sends_on stx i e r.answered.number r.answered.reply && offers_at at (line_of t.numbers i).state) s es

-- with the one that the start sends, our ENQ goes out six times at most, and so does each frame
pub record SentSparingly (i : ℕ) (s : HostState) (es : List GatewayItem) : Type 0 where
  pub asked : 1 + enquiries i s es ≤ most_tries
  pub offered : (at : ℕ) → frames_at i at s es ≤ most_tries

-- how many acknowledgements come on line i, of our ENQ and of frames
abbrev pub acknowledgements : ℕ → HostState → List GatewayItem → ℕ
acknowledgements i s es = count_until host_step (begins i) (λ e r t. acknowledges i e r.answered.number r.answered.reply) s es

-- line i is neutral here, or somewhere along the run
abbrev pub neutral_along : ℕ → HostState → List GatewayItem → Bool
neutral_along i s es = turns_neutral after (λ t. is_neutral (line_of t.numbers i).state) s es

-- whatever the contract of `ngachodui_outgoing` allows behind a call that answers STX, with memory for a frame: what the call's response has as sent, a frame or our reply to a
-- reader, is put out
abbrev pub FetchedAs : HostState → ℕ → List ℕ → Type 0
FetchedAs t i frame =
    (out out' : List ℕ) (r : Made) → Fetched t.numbers i t.memory.unfinished out r out' → frame_limit ≤ length out → (r ≡ done (length frame)) × (out' ≡ splice out 0 frame)

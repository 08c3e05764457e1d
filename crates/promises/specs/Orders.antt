-- Work orders: what goes out on a line in a sending, how often, what our EOT tells, and for how long.
-- A sending on line i begins with a start there that is answered 9, and what is counted is counted up to the next one.
-- Assumes nothing.
use Rattle.std.specs.Prelude.{ℕ, ◌+◌, ◌*◌, ◌-◌, ◌≤◌, ◌<◌, ◌≡◌, ◌≢◌, Bool, true, false, cond, not, ◌&&◌, ◌||◌, List, [], ◌∷◌, ◌++◌, eqb, leb, length, replicate}
use Rattle.memory.specs.Sizes.{frame_limit}
use Rattle.memory.specs.Tests.{is}
use Rattle.characters.specs.Control.{enq, eot, stx}
use Rattle.pieces.specs.Pieces.{pieces_of}
use Rattle.answers.specs.Paper.{ack, first_out}
use Rattle.answers.specs.InNumbers.{reply_byte}
use Rattle.line.specs.Line.{started_line, most_tries}
use Rattle.line.specs.declared.State.{State as LineState}
use Rattle.line.specs.declared.State.TheVariants.{Neutral, Waiting, Inside, Out}
use Rattle.line.specs.declared.Sending.TheVariants.{Asking, Pausing, Offering}
use Rattle.sending.specs.Onward.{reply_seconds, pause_seconds}
use Rattle.looking.specs.declared.Kind.{Kind}
use Rattle.looking.specs.declared.Kind.TheVariants.{Byte, Seconds}
use Rattle.orders.specs.Starts.{is_neutral}
use Rattle.gateway.specs.Events.{line_at}
use Rattle.gateway.specs.Out.{sends}
use Rattle.serial.specs.Serial.{event, taking, annotate, final, Every}
use Rattle.serial.specs.Kept.{is_of}
use Rattle.promises.specs.Machine.{State, Response, GatewayItem, happens, starts, came, starting, step, parts_of, store_of}
use Rattle.promises.specs.Runs.{answered}
use Rattle.promises.specs.Sending.{transfer}

-- ---- what goes out

-- n times ACK on line i
abbrev pub acks : ℕ → ℕ → List GatewayItem
acks i n = replicate n (came i (Byte ack))

-- what goes out on line i in a run, one behind the other, read off its history
abbrev pub out_on : {A : Type 0} → (A → List ℕ) → ℕ → List (GatewayItem × A) → List ℕ
out_on buffer i [] = []
out_on buffer i (x ∷ xs) = cond (is_of i x.0) (buffer x.1) [] ++ out_on buffer i xs

-- a start, and then an ACK for our ENQ and one for each frame
abbrev pub ordered_on : ℕ → List ℕ → List GatewayItem
ordered_on i m = starting i m ∷ came i (Byte ack) ∷ acks i (length (pieces_of frame_limit m))

-- each is answered 9, and what goes out is the transfer of the message, byte for byte, as demand 2 has it; the line is then as started, and nothing else has changed but its part
-- of the unfinished texts [S11]
pub record SendsWhole (s : State) (i : ℕ) (m : List ℕ) : Type 0 where
  pub answers : Every (λ x. answered x.1 ≡ sends) (annotate step s (ordered_on i m))
  pub out : out_on (λ (r : Response). r.buffer) i (annotate step s (ordered_on i m)) ≡ transfer frame_limit (m ∷ [])
  pub line : (parts_of (final step s (ordered_on i m)) i).line ≡ started_line (parts_of s i).line.settings
  pub others : (l : ℕ) → l ≢ i → parts_of (final step s (ordered_on i m)) l ≡ parts_of s l
  pub store : store_of (final step s (ordered_on i m)) ≡ store_of s

-- ---- how often

-- whether an item is a start on line i; and with its number, whether a sending begins there
abbrev pub is_start : ℕ → GatewayItem → Bool
is_start i (event l (happens k)) = false
is_start i (event l (starts text)) = eqb l i
is_start i (taking l b) = false

abbrev pub begins_on : ℕ → GatewayItem → ℕ → Bool
begins_on i e number = is_start i e && eqb number sends

-- an item of line i that is answered 9; and this byte goes out with it first
abbrev pub is_sent : ℕ → GatewayItem → ℕ → Bool
is_sent i e number = is_of i e && eqb number sends

abbrev pub sends_on : ℕ → ℕ → GatewayItem → ℕ → ℕ → Bool
sends_on b i e number first = is_sent i e number && is b first

-- the place of the frame that a line in this state offers is this one
abbrev pub offers_at : ℕ → LineState → Bool
offers_at at Neutral = false
offers_at at Waiting = false
offers_at at Inside = false
offers_at at (Out (Asking n)) = false
offers_at at (Out (Pausing n)) = false
offers_at at (Out (Offering n place)) = eqb place at

-- how many items of a run pass a test of the item, its answer and the state then, up to the next sending on line i
abbrev pub count_until : {S A : Type 0} → (S → GatewayItem → A × S) → (GatewayItem → A → Bool) → (GatewayItem → A → S → Bool) → S → List GatewayItem → ℕ
count_until f ends test s [] = 0
count_until f ends test s (e ∷ es) =
    cond (ends e (f s e).0) 0 (cond (test e (f s e).0 (f s e).1) 1 0 + count_until f ends test (f s e).1 es)

abbrev pub begins : ℕ → GatewayItem → Response → Bool
begins i e r = begins_on i e (answered r)

abbrev pub first_of : Response → ℕ
first_of r = reply_byte (first_out r.answer)

-- our ENQ; and the frame whose text starts at this place
abbrev pub enquiries : ℕ → State → List GatewayItem → ℕ
enquiries i s es = count_until step (begins i) (λ e r t. sends_on enq i e (answered r) (first_of r)) s es

abbrev pub frames_at : ℕ → ℕ → State → List GatewayItem → ℕ
frames_at i at s es = count_until step (begins i) (λ e r t. sends_on stx i e (answered r) (first_of r) && offers_at at (line_at t.gateway i).state) s es

-- with the one that the start sends, our ENQ goes out six times at most, and so does each frame [S7, S9]
pub record SendsSparingly (i : ℕ) (s : State) (es : List GatewayItem) : Type 0 where
  pub asked : 1 + enquiries i s es ≤ most_tries
  pub offered : (at : ℕ) → frames_at i at s es ≤ most_tries

-- ---- what our EOT tells

-- ACK, and EOT, which counts as ACK
abbrev pub is_ack : Kind → Bool
is_ack (Byte b) = is ack b || is eot b
is_ack (Seconds n) = false

abbrev pub has_ack : GatewayItem → Bool
has_ack (event l (happens k)) = is_ack k
has_ack (event l (starts text)) = false
has_ack (taking l b) = false

-- on line i it acknowledges our ENQ or a frame: the next frame goes out then, or our EOT, so that nothing is acknowledged twice
abbrev pub acknowledges : ℕ → GatewayItem → ℕ → ℕ → Bool
acknowledges i e number first = is_sent i e number && (not (eqb first 0) && has_ack e)

abbrev pub acknowledgements : ℕ → State → List GatewayItem → ℕ
acknowledgements i s es = count_until step (begins i) (λ e r t. acknowledges i e (answered r) (first_of r)) s es

-- in answer to an ACK it tells that all acknowledgements have come, and else that fewer have [S13]
pub record EotTells (acked : Bool) (acknowledged all : ℕ) : Type 0 where
  pub whole : acked ≡ true → acknowledged ≡ all
  pub short : acked ≡ false → acknowledged < all

-- ---- how long

-- how often a line is told that a second or more has passed
abbrev pub is_tick : ℕ → GatewayItem → Bool
is_tick i (event l (happens (Byte b))) = false
is_tick i (event l (happens (Seconds n))) = eqb l i && leb 1 n
is_tick i (event l (starts text)) = false
is_tick i (taking l b) = false

abbrev pub ticks : ℕ → List GatewayItem → ℕ
ticks i [] = 0
ticks i (e ∷ es) = cond (is_tick i e) 1 0 + ticks i es

-- line i is neutral here, or somewhere along the run
abbrev pub turns_neutral : {S : Type 0} → (S → GatewayItem → S) → (S → Bool) → S → List GatewayItem → Bool
turns_neutral next neutral s [] = neutral s
turns_neutral next neutral s (e ∷ es) = neutral s || turns_neutral next neutral (next s e) es

abbrev pub neutral_along : ℕ → State → List GatewayItem → Bool
neutral_along i s es = turns_neutral (λ t e. (step t e).1) (λ t. is_neutral (line_at t.gateway i).state) s es

-- so many seconds a sending of so many frames lasts at most, told one by one: six waits of 15 for our ENQ with five pauses of 10 between them, and six waits of 15 for each frame,
-- which are 140 and 90 [S12]
abbrev pub longest : ℕ → ℕ
longest frames = most_tries * reply_seconds + (most_tries - 1) * pause_seconds + most_tries * reply_seconds * frames

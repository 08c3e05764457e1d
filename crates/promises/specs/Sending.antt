-- Messages that are cut into frames and sent on one line: the bytes, their answers, and what is stored.
-- Assumes nothing.
use Rattle.std.specs.Prelude.{ℕ, ◌+◌, ◌≤◌, ◌<◌, ◌≡◌, ◌≢◌, true, List, [], ◌∷◌, ◌++◌, map, length, get_or, replicate, Some}
use Rattle.memory.specs.Sizes.{lines, frame_limit, journal_size, unfinished_size, frames_size}
use Rattle.memory.specs.Parts.{splice}
use Rattle.digits.specs.Number.{first_number}
use Rattle.frame.specs.Shape.{around_text, least_collected}
use Rattle.faults.specs.Message.{is_message}
use Rattle.frame.specs.Piece.{Piece}
use Rattle.pieces.specs.Pieces.{pieces_of}
use Rattle.framing.specs.Frames.{frames_from}
use Rattle.cutting.specs.Frames.{cut_of}
use Rattle.settings.specs.Settings.{block_limit}
use Rattle.line.specs.Line.{fresh_line, record_within}
use Rattle.characters.specs.Control.{enq, eot}
use Rattle.answers.specs.declared.Answer.{Answer}
use Rattle.answers.specs.declared.Answer.TheVariants.{Nothing, Opened, Accepted, Stored, Ended, Taken}
use Rattle.header.specs.Header.{serial_count, entry_size}
use Rattle.header.specs.Entry.{Entry}
use Rattle.journal.specs.Chain.{chain}
use Rattle.room.specs.Room.{todays_shares, fits, raised}
use Rattle.journal.specs.Storage.{new_entry, grown}
use Rattle.journal_laws.specs.Held.{Held}
use Rattle.journal.specs.declared.Ledger.{Ledger}
use Rattle.gateway.specs.Events.{line_at, memo_at}
use Rattle.looking.specs.declared.Kind.TheVariants.{Byte}
use Rattle.serial.specs.Serial.{taking, annotate, final, Every}
use Rattle.promises.specs.Machine.{State, Response, response, GatewayItem, came, step, parts_of}

-- bytes that come on line i, one behind the other
abbrev pub bytes_on : ℕ → List ℕ → List GatewayItem
bytes_on i bs = map (λ (b : ℕ). came i (Byte b)) bs

-- what runs items: the gateway's is `step`; the promise can be asked of any (proofs/Frauds) [P4]
abbrev pub Runner : Type 0
Runner = State → GatewayItem → Response × State

-- the answers to a run
abbrev pub answers_by : Runner → State → List GatewayItem → List Response
answers_by f s es = map (λ (x : GatewayItem × Response). x.1) (annotate f s es)

-- 0 to each byte of a frame but its last; to that 2, and 4 where no frame of the message follows
abbrev pub last_answer : List Piece → Answer
last_answer [] = Stored
last_answer (p ∷ ps) = Accepted

abbrev pub replies : List Piece → List Response
replies [] = []
replies (p ∷ ps) = replicate (length p.bytes + least_collected) (response Nothing []) ++ (response (last_answer ps) [] ∷ replies ps)

-- a limit of frames that leaves room for a byte of text and is within the line's own
pub record Usable (limit : ℕ) : Type 0 where
  pub some : around_text < limit
  pub most : limit ≤ frame_limit

-- one message: ENQ, and its frames as we cut them within the limit [C5]
abbrev pub sending : ℕ → List ℕ → List ℕ
sending limit m = enq ∷ cut_of limit m

abbrev pub sending_replies : ℕ → List ℕ → List Response
sending_replies limit m = response Opened [] ∷ replies (pieces_of limit m)

-- a transfer of several: ENQ, the frames of each message behind those of the one before it with the numbers running on, EOT
abbrev pub pieces_of_all : ℕ → List (List ℕ) → List Piece
pieces_of_all limit [] = []
pieces_of_all limit (m ∷ ms) = pieces_of limit m ++ pieces_of_all limit ms

abbrev pub transfer : ℕ → List (List ℕ) → List ℕ
transfer limit ms = enq ∷ (frames_from first_number (pieces_of_all limit ms) ++ (eot ∷ []))

abbrev pub replies_to_all : ℕ → List (List ℕ) → List Response
replies_to_all limit [] = []
replies_to_all limit (m ∷ ms) = replies (pieces_of limit m) ++ replies_to_all limit ms

abbrev pub transfer_replies : ℕ → List (List ℕ) → List Response
transfer_replies limit ms = response Opened [] ∷ (replies_to_all limit ms ++ (response Ended [] ∷ []))

-- the entries that texts become on line i, one behind the other
abbrev pub new_entries : Ledger → ℕ → List (List ℕ) → List Entry
new_entries d i [] = []
new_entries d i (m ∷ ms) = new_entry d i m ∷ new_entries (grown d i (length m)) i ms

-- messages, and room for them all on line i, headers counted
abbrev pub Messages : List (List ℕ) → Type 0
Messages ms = Every (λ (m : List ℕ). is_message m ≡ true) ms

abbrev pub sizes_of : List (List ℕ) → ℕ
sizes_of [] = 0
sizes_of (m ∷ ms) = entry_size (length m) + sizes_of ms

abbrev pub HasRoom : State → ℕ → List (List ℕ) → Type 0
HasRoom s i ms = fits todays_shares (raised s.gateway.ledger.used i (sizes_of ms)) ≡ true

-- a gateway whose lines are in any state within their limits, whatever they speak, with memory of the right sizes and a whole journal that holds these entries
pub record Intact (s : State) : Type 0 where
  pub as_many : length s.gateway.lines ≡ lines
  pub as_many_memos : length s.gateway.memos ≡ lines
  pub within : (i : ℕ) → i < lines → record_within (line_at s.gateway i) ≡ true
  pub blocks : (i : ℕ) → i < lines → length (memo_at s.gateway i).block ≡ block_limit
  pub texts : length s.memory.unfinished ≡ unfinished_size
  pub frames : length s.memory.frames ≡ frames_size
  pub journal : length s.memory.journal ≡ journal_size
  pub lines_used : length s.gateway.ledger.used ≡ lines
  pub lines_serials : length s.gateway.ledger.serials ≡ lines
  pub serials : (i : ℕ) → i < lines → get_or s.gateway.ledger.serials i 0 < serial_count
  pub entries : List Entry
  pub whole : chain s.gateway.ledger s.memory.journal ≡ Some entries

-- the bytes bs on line i, from a state whose journal holds the entries es, get these answers; the journal then holds es and, behind them, one entry for each of
-- the texts ms; and every other line has what it had [P4]
pub record DeliversBy (f : Runner) (s : State) (i : ℕ) (bs : List ℕ) (answers : List Response) (ms : List (List ℕ)) (es : List Entry) : Type 0 where
  pub answered : answers_by f s (bytes_on i bs) ≡ answers
  pub held : Held todays_shares (final f s (bytes_on i bs)).gateway.ledger (final f s (bytes_on i bs)).memory.journal (es ++ new_entries s.gateway.ledger i ms)
  pub others : (l : ℕ) → l ≢ i → parts_of (final f s (bytes_on i bs)) l ≡ parts_of s l

abbrev pub Delivers : State → ℕ → List ℕ → List Response → List (List ℕ) → List Entry → Type 0
Delivers s i bs answers ms es = DeliversBy step s i bs answers ms es

-- Demand 2, of any runner: a message that is cut and sent to a fresh line, whatever the other lines are at, with room for it [C5]
abbrev pub Demand2 : Runner → Type 0
Demand2 f =
    (i : ℕ) → i < lines → (s : State) (w : Intact s) → line_at s.gateway i ≡ fresh_line → (m : List ℕ) → is_message m ≡ true → HasRoom s i (m ∷ [])
    → DeliversBy f s i (sending frame_limit m) (sending_replies frame_limit m) (m ∷ []) w.entries

-- a taking from line i into the buffer b gives the text m with this serial: both its length and the serial are answered, it stands at the start of the buffer,
-- and the buffer's rest stays
abbrev pub GivesBackBy : Runner → State → ℕ → List ℕ → ℕ → List ℕ → Type 0
GivesBackBy f s i b serial m = (f s (taking i b)).0 ≡ response (Taken (length m) serial) (splice b 0 m)

abbrev pub GivesBack : State → ℕ → List ℕ → ℕ → List ℕ → Type 0
GivesBack s i b serial m = GivesBackBy step s i b serial m

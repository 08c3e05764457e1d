-- A message that we cut, sent by a host byte by byte to a fresh line: the answers, and what is stored.
-- Assumes nothing.
use Rattle.std.specs.Prelude.{ℕ, ◌+◌, ◌<◌, ◌≡◌, ◌≢◌, true, List, [], ◌∷◌, ◌++◌, map, length, replicate}
use Rattle.memory.specs.Sizes.{lines, frame_limit}
use Rattle.memory.specs.Parts.{splice}
use Rattle.frame.specs.Shape.{least_collected}
use Rattle.faults.specs.Message.{is_message}
use Rattle.frame.specs.Piece.{Piece}
use Rattle.pieces.specs.Pieces.{pieces_of}
use Rattle.header.specs.Entry.{Entry}
use Rattle.answers.specs.Paper.{ack}
use Rattle.line.specs.Line.{fresh_line}
use Rattle.serial.specs.Serial.{taking, annotate, final}
use Rattle.promises.specs.Machine.{GatewayItem}
use Rattle.promises.specs.Runs.{has_space}
use Rattle.promises.specs.Sending.{bytes_on, sending}
use Rattle.layout.specs.Layout.{serial_at, number_at}
use Rattle.numbers.specs.Plain.{line_of}
use Rattle.calls.specs.Calls.{HostState}
use Rattle.ngachodui_laws.specs.HostRuns.{gateway_state, HostResponse, host_step}
use Rattle.ngachodui_laws.specs.Outcomes.{LineKept}
use Rattle.ngachodui_laws.specs.Sound.{Intact, Holds}

-- line i is fresh, m is a message, and there is room for it, its header counted; the other lines may be at anything
pub record CanSend (s : HostState) (i : ℕ) (m : List ℕ) : Type 0 where
  pub line : i < lines
  pub intact : Intact s
  pub fresh : line_of s.numbers i ≡ fresh_line
  pub message : is_message m ≡ true
  pub room : has_space (gateway_state s) i (length m) ≡ true

-- what the host keeps when ENQ and the bytes of the message's frames have come on line i
abbrev pub sent_to : HostState → ℕ → List ℕ → HostState
sent_to s i m = final host_step s (bytes_on i (sending frame_limit m))

-- the answer to an event: its number and the byte that goes back; the answer to a taking that gives a text
abbrev pub says : ℕ → ℕ → HostResponse
says n reply = record { answered = record { number = n; reply = reply; serial = 0; place = 0; digits = 0; length = 0 }; buffer = [] }

abbrev pub gives : ℕ → ℕ → List ℕ → HostResponse
gives n serial buffer = record { answered = record { number = 8; reply = 0; serial = serial; place = 0; digits = 0; length = n }; buffer = buffer }

-- to the frames of a message: 0 to each byte of a frame but its last, and to that 2, or 4 where no frame follows, with ACK
abbrev pub number_at_end : List Piece → ℕ
number_at_end [] = 4
number_at_end (p ∷ ps) = 2

abbrev pub to_frames : List Piece → List HostResponse
to_frames [] = []
to_frames (p ∷ ps) = replicate (length p.bytes + least_collected) (says 0 0) ++ (says (number_at_end ps) ack ∷ to_frames ps)

-- the entry that a message becomes: its line, the line's next serial, its bytes
abbrev pub entry_of : HostState → ℕ → List ℕ → Entry
entry_of s i m = record { line = i; serial = number_at s.numbers i serial_at; text = m }

-- 1 to ENQ, then the answers to the frames; the journal holds what it held and, behind that, the message once; and every other line has what it had
pub record Delivered (s : HostState) (i : ℕ) (m : List ℕ) (es : List Entry) : Type 0 where
  pub answers : map (λ (x : GatewayItem × HostResponse). x.1) (annotate host_step s (bytes_on i (sending frame_limit m))) ≡ says 1 ack ∷ to_frames (pieces_of frame_limit m)
  pub holds : Holds (sent_to s i m) (es ++ (entry_of s i m ∷ []))
  pub others : (l : ℕ) → l < lines → l ≢ i → LineKept l s (sent_to s i m)

-- a taking from line i into b gives the text m: its length and this serial are answered, it stands at the buffer's start, and the buffer's rest stays
abbrev pub GivesBack : HostState → ℕ → List ℕ → ℕ → List ℕ → Type 0
GivesBack s i b serial m = (host_step s (taking i b)).0 ≡ gives (length m) serial (splice b 0 m)

-- The frame that a line offers: the one that was sent last and awaits its reply. Until the next goes out, it can be written as often as wanted.
-- Assumes nothing.
use Rattle.framing.specs.declared.Refusal.{Refusal}
use Rattle.std.specs.Prelude.{ℕ, ◌≡◌, cond, List, [], ltb, drop, None, Ok, Option, Result, Some}
use Rattle.frame.specs.Piece.{Piece}
use Rattle.framing.specs.Writing.{frame_of, put_of, put_in}
use Rattle.pieces.specs.Pieces.{first_piece}
use Rattle.line.specs.declared.Line.{Line}
use Rattle.line.specs.declared.State.{State}
use Rattle.line.specs.declared.State.TheVariants.{Neutral, Waiting, Inside, Out}
use Rattle.line.specs.declared.Sending.TheVariants.{Asking, Pausing, Offering}
use Rattle.sending.specs.Onward.{piece_at}

-- the piece that begins at a place of the text, and its frame with this number
abbrev pub piece_from : ℕ → ℕ → List ℕ → Piece
piece_from limit at text = first_piece (piece_at limit at text) (drop at text)

abbrev pub frame_at : ℕ → ℕ → ℕ → List ℕ → List ℕ
frame_at limit number at text = frame_of number (piece_from limit at text).end (piece_from limit at text).bytes

-- the piece whose frame is offered: only where a frame awaits its reply, and `joined` reaches its place
abbrev pub piece_in : ℕ → ℕ → State → List ℕ → Option Piece
piece_in limit joined Neutral text = None
piece_in limit joined Waiting text = None
piece_in limit joined Inside text = None
piece_in limit joined (Out (Asking n)) text = None
piece_in limit joined (Out (Pausing n)) text = None
piece_in limit joined (Out (Offering n at)) text = cond (ltb at joined) (Some (piece_from limit at text)) None

abbrev pub piece_now : ℕ → Line → List ℕ → Option Piece
piece_now limit l text = piece_in limit l.joined l.state text

-- its frame; no byte where none is offered
abbrev pub frame_for : ℕ → Option Piece → List ℕ
frame_for number None = []
frame_for number (Some p) = frame_of number p.end p.bytes

-- the frame that the line offers now [S2]
abbrev pub frame_now : ℕ → Line → List ℕ → List ℕ
frame_now limit l text = frame_for l.next (piece_now limit l text)

-- writing it: the answer, and the memory afterwards; where none is offered, the length is 0 and the memory is as it was
abbrev pub put_answer : ℕ → Option Piece → List ℕ → Result ℕ Refusal
put_answer number None out = Ok 0
put_answer number (Some p) out = put_of number p.bytes out

abbrev pub put_after : ℕ → Option Piece → List ℕ → List ℕ
put_after number None out = out
put_after number (Some p) out = put_in number p.end p.bytes out

-- what writing the frame of a piece says, if there is one
pub record PiecePut (number : ℕ) (p : Option Piece) (out : List ℕ) (r : Result ℕ Refusal) (out' : List ℕ) : Type 0 where
  pub answer : r ≡ put_answer number p out
  pub after : out' ≡ put_after number p out

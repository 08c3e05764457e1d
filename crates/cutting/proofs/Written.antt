-- The frames of a text in lent memory, one behind the other, and what each way out of cutting says.
-- Assumes nothing.
use Rattle.std.specs.Prelude.{Err, Ok, Result, ℕ}
use Rattle.framing.specs.declared.Refusal.{Refusal as Unwritten}
use Rattle.std.specs.Result.{is_ok}
use Rattle.faults.specs.declared.Refusal.TheVariants.{Malformed, NotFitting}
use Rattle.faults.specs.declared.Refusal.{Refusal}
use mathlib.Core.Path.{◌≡◌, refl, sym, ap, ◌∙◌}
use mathlib.Core.Bool.{Bool, true, false}
use mathlib.Core.List.{List, [], ◌∷◌, ◌++◌, append-nil}
use Prim.Native.Nat.{ℕ, ◌+◌, ◌-◌, ◌*◌, ◌≤◌, ◌<◌}
use native.Mathlib.Nat.{add-zero}
use native.Mathlib.Omega.{arith}
use borrow.Author.Tests.{le-leb, lt-leb, lt-ltb, le-ltb}
use lib.ListN.{length, take, drop, length-append, length-drop, drop_of_length-le}
use lib.Seq.{take_all, length-take-le}
use Rattle.memory.specs.Parts.{splice}
use Rattle.memory.proofs.Parts.{splice_from, splice_join, length_splice}
use Rattle.digits.specs.Number.{most_number, next_number}
use Rattle.frame.specs.Shape.{around_text}
use Rattle.frame.specs.Piece.{Piece}
use Rattle.framing.specs.Writing.{frame_of, put_of, put_in, FramePut}
use Rattle.framing.specs.Frames.{frames_from}
use Rattle.frame.specs.declared.End.{End}
use Rattle.framing.proofs.Put.{length_frame}
use Rattle.faults.specs.Message.{is_message}
use Rattle.faults.specs.Refusals.{refused_as}
use Rattle.faults.specs.Faults.{fault_of}
use Rattle.records.proofs.Scans.{tail_at, rest_part}
use Rattle.pieces.specs.Pieces.{first_piece, pieces_of}
use Rattle.pieces.specs.Inner.Wholes.{bytes_of}
use Rattle.pieces.proofs.Steps.{Turn}
use Rattle.cutting.specs.Frames.{cut_of, is_cuttable, uncut, cut_answer, cut_in, CutInto}

-- the frame was put into the part from `at` on, which is back in its place
pub frame_back : (number : ℕ) (end : End) (text d m b : List ℕ) (at : ℕ) (r : Result ℕ Unwritten) → number ≤ most_number
    → at + (length text + around_text) ≤ length d → m ≡ take (length d - at) (drop at d) → FramePut number end text m r b
    → take at d ++ (b ++ drop (length d - at) (drop at d)) ≡ splice d at (frame_of number end text)
unfolding put_in
frame_back number end text d m b at r few room e w =
    let whole : m ≡ drop at d = e ∙ take_all (length d - at) (drop at d) (rw length-drop (omega arith)) in
    let fits : length text + around_text ≤ length m = rw (whole, length-drop) (omega arith) in
    let over : length (drop at d) ≤ length d - at = rw length-drop (omega arith) in
    let laid : b ≡ splice m 0 (frame_of number end text) = w.after ∙ rw (le-leb number most_number few, le-leb (length text + around_text) (length m) fits) in
    rw (drop_of_length-le (drop at d) over, append-nil, laid, whole, ← splice_from d at 0 (frame_of number end text) (omega arith), add-zero)

-- a frame that fits is written
pub frame_fits : (number : ℕ) (end : End) (text m b : List ℕ) {r : Result ℕ Unwritten} → number ≤ most_number → length text + around_text ≤ length m
    → FramePut number end text m r b → is_ok r ≡ true
unfolding put_of
frame_fits number end text m b few fits w = ap is_ok w.answer ∙ rw (le-leb number most_number few, le-leb (length text + around_text) (length m) fits)

-- what is left to write at a place of the text
abbrev pub left : ℕ → List ℕ → ℕ → ℕ → List ℕ
left limit text at number = frames_from number (pieces_of limit (drop at text))

-- the frame of a turn's piece
abbrev pub turn_frame : List ℕ → ℕ → ℕ → ℕ → List ℕ
turn_frame text at n number = frame_of number (first_piece n (tail_at text at)).end (first_piece n (tail_at text at)).bytes

-- a turn writes the frame of its piece, and leaves what comes behind it
module _ (limit : ℕ) (text : List ℕ) (at n number : ℕ) (t : Turn limit text at n) where
  pub left_turn : left limit text at number ≡ turn_frame text at n number ++ left limit text (at + n) (next_number number)
  left_turn = ap (frames_from number) t.cut

  piece_long : length (take n (tail_at text at)) ≡ n
  piece_long = length-take-le n (tail_at text at) (rw (rest_part, length-drop) (omega (arith, t.within)))

  pub frame_long : length (turn_frame text at n number) ≡ n + around_text
  frame_long = rw (length_frame, piece_long)

  pub left_long : length (left limit text at number) ≡ n + around_text + length (left limit text (at + n) (next_number number))
  left_long = rw (left_turn, length-append, frame_long)

  pub written_turn : (out : List ℕ) (done : ℕ) → done + length (left limit text at number) ≤ length out
      → splice (splice out done (turn_frame text at n number)) (done + (n + around_text)) (left limit text (at + n) (next_number number))
      ≡ splice out done (left limit text at number)
  written_turn out done h =
      let f = turn_frame text at n number in
      let size : n + around_text ≡ length f = sym frame_long in
      rw (size, left_turn) (splice_join out done f (left limit text (at + n) (next_number number)) (omega (arith, left_long, frame_long)))

next_few : (number : ℕ) → next_number number ≤ most_number
unfolding next_number
next_few number = omega arith

-- so what was left to write still is, behind one frame more
module _ (limit : ℕ) (text : List ℕ) (at n number : ℕ) (t : Turn limit text at n) (out out₀ : List ℕ) (done : ℕ) where
  pub written_on : {out' : List ℕ} {next : ℕ} → length out ≡ length out₀ → length (cut_of limit text) ≤ length out₀
      → done + length (left limit text at number) ≡ length (cut_of limit text) → splice out done (left limit text at number) ≡ splice out₀ 0 (cut_of limit text)
      → out' ≡ splice out done (turn_frame text at n number) → next ≡ next_number number
      → (at + n ≤ length text) × (next ≤ most_number) × (length out' ≡ length out₀)
      × (splice out' (done + (n + around_text)) (left limit text (at + n) next) ≡ splice out₀ 0 (cut_of limit text))
      × (done + (n + around_text) + length (left limit text (at + n) next) ≡ length (cut_of limit text))
  written_on same room ahead whole w e =
      let long = left_long limit text at n number t in
      let size = frame_long limit text at n number t in
      rw (w, e) (
        t.within,
        next_few number,
        length_splice out done (turn_frame text at n number) (omega arith) ∙ same,
        written_turn limit text at n number t out done (omega arith) ∙ whole,
        omega arith,
      )

pub left_none : (limit : ℕ) (text : List ℕ) (at number : ℕ) → length text ≤ at → left limit text at number ≡ []
unfolding pieces_of
left_none limit text at number h = rw (drop_of_length-le text h)

-- the frames are as long as the text and what stands around it in each
pub frames_long : (number : ℕ) (ps : List Piece) → length (frames_from number ps) ≡ length (bytes_of ps) + around_text * length ps
frames_long number [] = refl
frames_long number (p ∷ ps) =
    let z = frames_long (next_number number) ps in
    rw (length-append, length-append, length_frame) (omega (arith, z))

-- where a frame has room, a text is cut exactly if it is a message
pub by_message : (limit : ℕ) (text : List ℕ) → around_text < limit → {b : Bool} → is_message text ≡ b → is_cuttable limit text ≡ b
unfolding is_cuttable
by_message limit text h e = rw (lt-ltb around_text limit h) e

-- what each way out of cutting says
module _ (limit : ℕ) (text out : List ℕ) where
  no_frames : {r : Result ℕ Refusal} → r ≡ uncut limit text → is_cuttable limit text ≡ false → CutInto limit text out r out
  unfolding cut_answer cut_in
  no_frames of e = record { answer = of ∙ rw e; after = rw e }

  pub no_room_in_frames : limit ≤ around_text → CutInto limit text out (Err Malformed) out
  unfolding is_cuttable
  no_room_in_frames h = let small = le-ltb around_text limit h in no_frames (rw small) (rw small)

  pub no_message : {r : Result ℕ Refusal} → around_text < limit → is_message text ≡ false → r ≡ Err (refused_as (fault_of text)) → CutInto limit text out r out
  no_message h e of = no_frames (of ∙ rw (lt-ltb around_text limit h)) (by_message limit text h e)

  pub no_room : is_cuttable limit text ≡ true → length out < length (cut_of limit text) → CutInto limit text out (Err NotFitting) out
  unfolding cut_answer cut_in
  no_room e h =
      let full = lt-leb (length (cut_of limit text)) (length out) h in
      record { answer = rw (e, full); after = rw (e, full) }

  pub cut_written : {n : ℕ} {out' : List ℕ} → is_cuttable limit text ≡ true → length (cut_of limit text) ≤ length out → n ≡ length (cut_of limit text)
      → out' ≡ splice out 0 (cut_of limit text) → CutInto limit text out (Ok n) out'
  unfolding cut_answer cut_in
  cut_written e h k w =
      let holds = le-leb (length (cut_of limit text)) (length out) h in
      record { answer = rw (e, holds, k); after = rw (e, holds) w }

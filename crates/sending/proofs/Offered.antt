-- The frame of a piece in lent memory, and what is written of the frame that a line offers.
-- Assumes nothing.
use Rattle.std.specs.Prelude.{Err, None, Ok, Option, Result, Some, ℕ}
use Rattle.framing.specs.declared.Refusal.TheVariants.{NotFitting}
use Rattle.framing.specs.declared.Refusal.{Refusal}
use mathlib.Core.Path.{◌≡◌, sym, ap, ◌∙◌}
use mathlib.Core.Bool.{Bool, true, false, cond}
use mathlib.Core.List.{List}
use Prim.Native.Nat.{ℕ, ◌+◌, ◌-◌, ◌≤◌, ◌<◌}
use native.Mathlib.Omega.{arith}
use borrow.Author.Tests.{le-leb, lt-leb}
use lib.Dec.{ltb}
use lib.ListN.{length, get_or, take, drop, length-take}
use Rattle.memory.specs.Parts.{splice}
use Rattle.memory.proofs.Parts.{splice_nil}
use Rattle.digits.specs.Number.{most_number}
use Rattle.frame.specs.Shape.{around_text}
use Rattle.frame.specs.Piece.{Piece, piece}
use Rattle.frame.specs.declared.End.{End}
use Rattle.framing.specs.Writing.{put_of, put_in, FramePut}
use Rattle.framing.proofs.Put.{length_frame}
use Rattle.line.specs.declared.Line.{Line}
use Rattle.line.specs.declared.State.{State}
use Rattle.line.specs.declared.State.TheVariants.{Neutral, Waiting, Inside, Out}
use Rattle.line.specs.declared.Sending.TheVariants.{Asking, Pausing, Offering}
use Rattle.pieces.specs.Pieces.{piece_size, through_cr, end_after, first_piece}
use Rattle.sending.specs.Onward.{piece_at}
use Rattle.sending.specs.Offered.{piece_from, frame_at, piece_in, piece_now, frame_for, frame_now, PiecePut}
use Rattle.sending.proofs.Pieces.{piece_short}

-- a frame of the first piece of what lies behind a place is that of the piece there
module _ (limit at number : ℕ) (text out : List ℕ) {rest : List ℕ} {n : ℕ} {end : End} {r : Result ℕ Refusal} {out' : List ℕ} where
  pub piece_put : rest ≡ drop at text → n ≡ through_cr (take (piece_size limit) rest) → end ≡ end_after (get_or rest (n - 1) 0)
      → FramePut number end (take n rest) out r out' → PiecePut number (Some (piece_from limit at text)) out r out'
  piece_put there found ends put =
      let same : piece end (take n rest) ≡ piece_from limit at text =
      ap (λ (e : End). piece e (take n rest)) ends
      ∙ ap (λ (m : ℕ). first_piece m rest) found
      ∙ ap (λ (t : List ℕ). first_piece (through_cr (take (piece_size limit) t)) t) there in
      record {
        answer = put.answer ∙ ap (λ (p : Piece). put_of number p.bytes out) same;
        after = put.after ∙ ap (λ (p : Piece). put_in number p.end p.bytes out) same;
      }

-- with a number that frames have, and where there is room, the whole frame is over the start; where there is none, nothing is
piece_written : (number : ℕ) (o : Option Piece) (out : List ℕ) {r : Result ℕ Refusal} {out' : List ℕ} → number ≤ most_number → length (frame_for number o) ≤ length out
    → PiecePut number o out r out' → (r ≡ Ok (length (frame_for number o))) × (out' ≡ splice out 0 (frame_for number o))
unfolding put_of put_in
piece_written number None out few room put = (put.answer, put.after ∙ sym (splice_nil out 0))
piece_written number (Some p) out few room put =
    let long = length_frame number p.end p.bytes in
    let fits : length p.bytes + around_text ≤ length out = omega arith in
    let numbered = le-leb number most_number few in
    let holds = le-leb (length p.bytes + around_text) (length out) fits in
    (put.answer ∙ rw (numbered, holds, long), put.after ∙ rw (numbered, holds))

-- and where there is no room, nothing is written
piece_unwritten : (number : ℕ) (o : Option Piece) (out : List ℕ) {r : Result ℕ Refusal} {out' : List ℕ} → number ≤ most_number → length out < length (frame_for number o)
    → PiecePut number o out r out' → (r ≡ Err NotFitting) × (out' ≡ out)
unfolding put_of put_in
piece_unwritten number None out few full put = absurd (omega arith)
piece_unwritten number (Some p) out few full put =
    let long = length_frame number p.end p.bytes in
    let over : length out < length p.bytes + around_text = omega arith in
    let numbered = le-leb number most_number few in
    let holds = lt-leb (length p.bytes + around_text) (length out) over in
    (put.answer ∙ rw (numbered, holds), put.after ∙ rw (numbered, holds))

-- a frame of what is offered is within the limit
module _ (limit number : ℕ) (text : List ℕ) (h : around_text ≤ limit) where
  frame_short : (at : ℕ) → length (frame_at limit number at text) ≤ limit
  frame_short at =
      let p = piece_from limit at text in
      let long = length_frame number p.end p.bytes in
      let taken = length-take (piece_at limit at text) (drop at text) in
      omega (arith, piece_short limit at text)

  for_short : (joined : ℕ) (s : State) → length (frame_for number (piece_in limit joined s text)) ≤ limit
  for_short joined Neutral = omega arith
  for_short joined Waiting = omega arith
  for_short joined Inside = omega arith
  for_short joined (Out (Asking n)) = omega arith
  for_short joined (Out (Pausing n)) = omega arith
  for_short joined (Out (Offering n at)) = by_place (ltb at joined)
    where
      by_place : (b : Bool) → length (frame_for number (cond b (Some (piece_from limit at text)) None)) ≤ limit
      by_place true = frame_short at
      by_place false = omega arith

module _ (limit : ℕ) (l : Line) (text : List ℕ) where
  -- so the frame that a line offers is what is written
  pub offered_written : (out : List ℕ) {r : Result ℕ Refusal} {out' : List ℕ} → l.next ≤ most_number → length (frame_now limit l text) ≤ length out
      → PiecePut l.next (piece_now limit l text) out r out' → (r ≡ Ok (length (frame_now limit l text))) × (out' ≡ splice out 0 (frame_now limit l text))
  offered_written out few room put = piece_written l.next (piece_now limit l text) out few room put

  pub offered_unwritten : (out : List ℕ) {r : Result ℕ Refusal} {out' : List ℕ} → l.next ≤ most_number → length out < length (frame_now limit l text)
      → PiecePut l.next (piece_now limit l text) out r out' → (r ≡ Err NotFitting) × (out' ≡ out)
  offered_unwritten out few full put = piece_unwritten l.next (piece_now limit l text) out few full put

  -- and a memory of as many bytes as the limit is long enough for it
  pub offered_short : around_text ≤ limit → length (frame_now limit l text) ≤ limit
  offered_short h = for_short limit l.next text h l.joined l.state

-- The bytes of a frame in lent memory, store by store.
-- Assumes nothing.
use Rattle.std.specs.Prelude.{Err, Ok}
use Rattle.framing.specs.declared.Refusal.TheVariants.{Malformed, NotFitting}
use Rattle.std.proofs.Common.{◌≡◌, ℕ, ◌+◌, ◌%◌, ◌<◌, ◌≤◌, List, [], ◌∷◌, ◌++◌, length, get_or, take, set, refl, ap, ◌∙◌, add-one, arith, length-append, length-take-le, take-suc, le-leb}
use borrow.Author.Tests.{lt-leb}
use Rattle.memory.specs.Parts.{splice}
use Rattle.memory.proofs.Parts.{set_splice, set_behind, splice_join, length_splice}
use Rattle.characters.specs.Control.{stx}
use Rattle.digits.specs.Check.{total, check_of}
use Rattle.digits.specs.Number.{most_number}
use Rattle.frame.specs.Shape.{around_text}
use Rattle.framing.specs.Writing.{body_of, tail_of, collected_of, frame_of, put_of, put_in, FramePut}
use Rattle.digits.proofs.Check.{total_append}
use Rattle.frame.specs.declared.End.{End}

-- two stores at the start, a text behind them, one store more
module _ (d text x : List ℕ) (a b e : ℕ) (h : length text + 3 ≤ length d) (c : x ≡ splice (set (set d 0 a) 1 b) 2 text) where
  laid_text : x ≡ splice d 0 (a ∷ b ∷ text)
  laid_text =
      let start : set (set d 0 a) 1 b ≡ splice d 0 (a ∷ b ∷ []) = rw (set_splice d 0 a (omega arith)) (set_behind d 0 (a ∷ []) b (omega arith)) in
      c ∙ rw start (splice_join d 0 (a ∷ b ∷ []) text (omega arith))

  pub long_body : length x ≡ length d
  long_body = ap length laid_text ∙ length_splice d 0 (a ∷ b ∷ text) (omega arith)

  pub put_body : set x (length text + 2) e ≡ splice d 0 (a ∷ b ∷ (text ++ (e ∷ [])))
  put_body =
      let at : length text + 2 ≡ 0 + length (a ∷ b ∷ text) = omega arith in
      rw (at, laid_text) (set_behind d 0 (a ∷ b ∷ text) e (omega arith))

-- one byte more of the text behind the two
pub text_more : (d text : List ℕ) (i : ℕ) → i < length text → length text + 2 ≤ length d
    → set (splice d 2 (take i text)) (i + 2) (get_or text i 0) ≡ splice d 2 (take (i + 1) text)
text_more d text i h k =
    let long : length (take i text) ≡ i = length-take-le i text (omega arith) in
    let at : i + 2 ≡ 2 + length (take i text) = omega arith in
    rw (at, set_behind d 2 (take i text) (get_or text i 0) (omega arith), add-one i, take-suc text i 0 h)

-- the check of a body, from that of all but its last byte
pub check_body : (a e : ℕ) (text : List ℕ) {sum check : ℕ} → sum ≡ (a + total text) % 256 → check ≡ (sum + e) % 256 → check ≡ check_of (a ∷ (text ++ (e ∷ [])))
unfolding check_of total
check_body a e text p q = let z = total_append text (e ∷ []) in omega (arith, z)

-- four stores one behind the other
pub put_four : (d : List ℕ) (at a b e f : ℕ) → at + 4 ≤ length d → set (set (set (set d at a) (at + 1) b) (at + 2) e) (at + 3) f ≡ splice d at (a ∷ b ∷ e ∷ f ∷ [])
put_four d at a b e f h =
    rw (set_splice d at a (omega arith), set_behind d at (a ∷ []) b (omega arith), set_behind d at (a ∷ b ∷ []) e (omega arith))
    (set_behind d at (a ∷ b ∷ e ∷ []) f (omega arith))

pub length_body : (number : ℕ) (end : End) (text : List ℕ) → length (body_of number end text) ≡ length text + 2
unfolding body_of
length_body number end text = rw length-append (omega arith)

pub length_tail : (body : List ℕ) → length (tail_of body) ≡ 4
unfolding tail_of
length_tail body = refl

pub length_collected : (number : ℕ) (end : End) (text : List ℕ) → length (collected_of number end text) ≡ length text + 6
unfolding collected_of
length_collected number end text = rw (length-append, length_body number end text, length_tail (body_of number end text)) (omega arith)

pub length_frame : (number : ℕ) (end : End) (text : List ℕ) → length (frame_of number end text) ≡ length text + around_text
unfolding frame_of
length_frame number end text = let z = length_collected number end text in omega (arith, z)

frame_is : (number : ℕ) (end : End) (text : List ℕ) → frame_of number end text ≡ stx ∷ (body_of number end text ++ tail_of (body_of number end text))
unfolding frame_of collected_of
frame_is number end text = refl

-- the tail put behind the body makes the frame
pub frame_put : (d : List ℕ) (number : ℕ) (end : End) (text : List ℕ) → length text + 7 ≤ length d
    → splice (splice d 0 (stx ∷ body_of number end text)) (length text + 3) (tail_of (body_of number end text)) ≡ splice d 0 (frame_of number end text)
frame_put d number end text h =
    let size : length (body_of number end text) ≡ length text + 2 = length_body number end text in
    let at : length text + 3 ≡ 0 + length (stx ∷ body_of number end text) = omega arith in
    rw (at, frame_is number end text)
    (splice_join d 0 (stx ∷ body_of number end text) (tail_of (body_of number end text)) (rw (length_tail (body_of number end text)) (omega arith)))

-- what each way out of putting a frame says
module _ (number : ℕ) (end : End) (text out : List ℕ) where
  pub not_put : most_number < number → FramePut number end text out (Err Malformed) out
  unfolding put_of put_in
  not_put h = let large = lt-leb number most_number h in record { answer = rw large; after = rw large }

  pub no_room : number ≤ most_number → length out < length text + 7 → FramePut number end text out (Err NotFitting) out
  unfolding put_of put_in
  no_room k h =
      let few = le-leb number most_number k in
      let full = lt-leb (length text + 7) (length out) h in
      record { answer = rw (few, full); after = rw (few, full) }

  pub put : {out' : List ℕ} → number ≤ most_number → length text + 7 ≤ length out → out' ≡ splice out 0 (frame_of number end text)
      → FramePut number end text out (Ok (length text + 7)) out'
  unfolding put_of put_in
  put k h w =
      let few = le-leb number most_number k in
      let holds = le-leb (length text + 7) (length out) h in
      record { answer = rw (few, holds); after = rw (few, holds) w }

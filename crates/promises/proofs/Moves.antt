-- E1381's sending side, row by row: each byte and each count of seconds moves a sending in one of these ways. What is shown of every row holds of every event.
-- Assumes nothing.
use mathlib.Core.Path.{◌≡◌, refl}
use mathlib.Core.Bool.{Bool, true, false, cond, ◌||◌}
use Prim.Native.Nat.{ℕ, ◌+◌, ◌<◌, ◌≤◌}
use borrow.Author.Tests.{ltb-true, ltb-false}
use native.Mathlib.Omega.{arith}
use lib.Dec.{ltb}
use lib.ListN.{length}
use Rattle.memory.specs.Sizes.{frame_limit}
use Rattle.memory.specs.Tests.{is}
use Rattle.characters.specs.Control.{enq, eot}
use Rattle.answers.specs.Paper.{ack}
use Rattle.digits.specs.Number.{first_number, next_number}
use Rattle.line.specs.Line.{most_tries}
use Rattle.line.specs.declared.Line.{Line}
use Rattle.line.specs.declared.Sending.{Sending}
use Rattle.line.specs.declared.Sending.TheVariants.{Asking, Pausing, Offering}
use Rattle.sending.specs.Onward.{piece_at, offer, ask_reply, frame_reply, wait_of, late_onward, seconds_onward}
use Rattle.sending.specs.declared.Onward.{Onward}
use Rattle.sending.specs.declared.Onward.TheVariants.{Stays, Waits, Goes, Ends, GivesUp}
use Rattle.sending.proofs.Pieces.{piece_some}
use Rattle.looking.specs.declared.Kind.{Kind}
use Rattle.looking.specs.declared.Kind.TheVariants.{Byte, Seconds}
use Rattle.promises.specs.Machine.{Parts}
use Rattle.promises.specs.Clean.{unfinished_in}
use Rattle.promises.specs.Orders.{is_ack}
use Rattle.promises.proofs.Onward.{onward_by}

-- the place of the frame that is offered, or that of the first
abbrev pub place_in : Sending → ℕ
place_in (Asking n) = 0
place_in (Pausing n) = 0
place_in (Offering n at) = at

module _ (p : Parts) where
  abbrev l : Line
  l = p.line

  -- the place behind the piece at this one
  abbrev pub place_behind : ℕ → ℕ
  place_behind at = at + piece_at frame_limit at (unfinished_in p)

  -- an event, where the sending was, and what is made of it
  pub data Moves : Kind → Sending → Onward → Type 0 where
    offers_first : {k : Kind} {n : ℕ} → is_ack k ≡ true → 0 < l.joined → Moves k (Asking n) (Goes (Offering 1 0) first_number)
    pauses : {k : Kind} {n : ℕ} → n + 1 < most_tries → Moves k (Asking n) (Goes (Pausing (n + 1)) l.next)
    ignores : {b n : ℕ} → Moves (Byte b) (Pausing n) Stays
    asks_again : {k : Kind} {n : ℕ} → is_ack k ≡ false → Moves k (Pausing n) (Goes (Asking n) l.next)
    offers_next : {k : Kind} {n at : ℕ} → is_ack k ≡ true → at < l.joined → place_behind at < l.joined
        → Moves k (Offering n at) (Goes (Offering 1 (place_behind at)) (next_number l.next))
    offers_again : {k : Kind} {n at : ℕ} → is_ack k ≡ false → n < most_tries → Moves k (Offering n at) (Goes (Offering (n + 1) at) l.next)
    waits : {n : ℕ} {t : Sending} → l.seconds + n < wait_of t → Moves (Seconds n) t (Waits (l.seconds + n))
    -- our EOT: behind the last frame; where a frame was refused too often, or no reply has come; or where the text has no byte at the place, as in no run
    ends_whole : {k : Kind} {n at : ℕ} → is_ack k ≡ true → at < l.joined → l.joined ≤ place_behind at → Moves k (Offering n at) Ends
    ends_short : {k : Kind} {t : Sending} → is_ack k ≡ false → Moves k t Ends
    ends_past : {k : Kind} {t : Sending} → l.joined ≤ place_in t → Moves k t Ends
    gives_up : {k : Kind} {t : Sending} → Moves k t GivesUp

  -- places strictly grow: where the text has a byte, a piece has one
  pub place_grows : length (unfinished_in p) ≡ l.joined → (at : ℕ) → at < l.joined → at < place_behind at
  place_grows long at there = omega (arith, piece_some frame_limit at (unfinished_in p) (omega arith) (omega (arith, long)))

  by_test_law : {k : Kind} {t : Sending} (c : Bool) (x y : Onward) → (c ≡ true → Moves k t x) → (c ≡ false → Moves k t y) → Moves k t (cond c x y)
  by_test_law true x y p q = p refl
  by_test_law false x y p q = q refl

  ask_moves : (n b : ℕ) → Moves (Byte b) (Asking n) (ask_reply l n b)
  unfolding ask_reply
  ask_moves n b =
      by_test_law (is ack b) (offer l 0 first_number) _
      (λ e. by_test_law (ltb 0 l.joined) (Goes (Offering 1 0) first_number) Ends (λ f. offers_first (rw e) (ltb-true 0 l.joined f)) (λ f. ends_past (ltb-false 0 l.joined f)))
      (λ e. by_test_law (is enq b) GivesUp _ (λ f. gives_up)
      (λ f. by_test_law (ltb (n + 1) most_tries) (Goes (Pausing (n + 1)) l.next) GivesUp (λ g. pauses (ltb-true (n + 1) most_tries g)) (λ g. gives_up)))

  frame_moves : (n at b : ℕ) → Moves (Byte b) (Offering n at) (frame_reply frame_limit l n at b (unfinished_in p))
  unfolding frame_reply
  frame_moves n at b =
      by_test_law (ltb at l.joined) _ Ends
      (λ e. by_test_law (is ack b || is eot b) (offer l (place_behind at) (next_number l.next)) _
      (λ f. by_test_law (ltb (place_behind at) l.joined) (Goes (Offering 1 (place_behind at)) (next_number l.next)) Ends
      (λ g. offers_next f (ltb-true at l.joined e) (ltb-true (place_behind at) l.joined g))
      (λ g. ends_whole f (ltb-true at l.joined e) (ltb-false (place_behind at) l.joined g)))
      (λ f. by_test_law (ltb n most_tries) (Goes (Offering (n + 1) at) l.next) Ends (λ g. offers_again f (ltb-true n most_tries g)) (λ g. ends_short f)))
      (λ e. ends_past (ltb-false at l.joined e))

  late_moves : (n : ℕ) (t : Sending) → Moves (Seconds n) t (late_onward l t)
  late_moves n (Asking m) = ends_short refl
  late_moves n (Pausing m) = asks_again refl
  late_moves n (Offering m at) = ends_short refl

  seconds_moves : (n : ℕ) (t : Sending) → Moves (Seconds n) t (seconds_onward l t n)
  unfolding seconds_onward
  seconds_moves n t = by_test_law (ltb (l.seconds + n) (wait_of t)) (Waits (l.seconds + n)) (late_onward l t) (λ e. waits (ltb-true (l.seconds + n) (wait_of t) e)) (λ e. late_moves n t)

  pub moves : (k : Kind) (t : Sending) → Moves k t (onward_by p t k)
  moves (Byte b) (Asking n) = ask_moves n b
  moves (Byte b) (Pausing n) = ignores
  moves (Byte b) (Offering n at) = frame_moves n at b
  moves (Seconds n) t = seconds_moves n t

-- What a byte or seconds make of a sending stays within the limits of the line's record.
-- Assumes nothing.
use mathlib.Core.Path.{◌≡◌, refl}
use mathlib.Core.Bool.{Bool, true, false, cond, ◌||◌}
use mathlib.Core.List.{List}
use Prim.Native.Nat.{ℕ, ◌+◌, ◌≤◌, ◌<◌}
use native.Mathlib.Omega.{arith}
use borrow.Author.Tests.{ltb-true, le-leb}
use lib.Dec.{leb, ltb}
use Rattle.memory.specs.Sizes.{message_limit}
use Rattle.memory.specs.Tests.{is}
use Rattle.memory.proofs.Tests.{and_both}
use Rattle.characters.specs.Control.{enq, eot}
use Rattle.answers.specs.Paper.{ack}
use Rattle.digits.specs.Number.{first_number, most_number, next_number}
use Rattle.line.specs.Line.{most_seconds, most_tries, sending_within, within_limits}
use Rattle.line.specs.declared.Line.{Line}
use Rattle.line.specs.declared.State.TheVariants.{Out}
use Rattle.line.specs.declared.Sending.{Sending}
use Rattle.line.specs.declared.Sending.TheVariants.{Asking, Pausing, Offering}
use Rattle.line.proofs.Limits.{Within, within_facts}
use Rattle.sending.specs.Onward.{piece_at, offer, ask_reply, frame_reply, byte_onward, wait_of, late_onward, seconds_onward}
use Rattle.sending.specs.declared.Onward.{Onward}
use Rattle.sending.specs.declared.Onward.TheVariants.{Stays, Waits, Goes, Ends, GivesUp}

-- its seconds, where it is, and its frame's number
abbrev pub OnwardFits : Onward → Type 0
OnwardFits Stays = Unit {0}
OnwardFits (Waits n) = n ≤ most_seconds
OnwardFits (Goes s n) = (sending_within s ≡ true) × (n ≤ most_number)
OnwardFits Ends = Unit {0}
OnwardFits GivesUp = Unit {0}

by_test_law : (t : Bool) (x y : Onward) → (t ≡ true → OnwardFits x) → OnwardFits y → OnwardFits (cond t x y)
by_test_law true x y p q = p refl
by_test_law false x y p q = q

-- no reply is waited for as long as a frame is
wait_short : (s : Sending) → wait_of s ≤ most_seconds
wait_short (Asking n) = omega arith
wait_short (Pausing n) = omega arith
wait_short (Offering n at) = omega arith

module _ (l : Line) (w : Within l) where
  -- a place that the text reaches lies within the longest text
  place_within : (n at : ℕ) → n ≤ most_tries → at < l.joined → sending_within (Offering n at) ≡ true
  place_within n at few there =
      and_both (leb n most_tries) (leb at message_limit) (le-leb n most_tries few) (le-leb at message_limit (omega (arith, w.joined)))

  offer_fits : (at number : ℕ) → number ≤ most_number → OnwardFits (offer l at number)
  offer_fits at number few =
      by_test_law (ltb at l.joined) (Goes (Offering 1 at) number) Ends (λ e. (place_within 1 at (omega arith) (ltb-true at l.joined e), few)) tt

  ask_fits : (n b : ℕ) → OnwardFits (ask_reply l n b)
  unfolding ask_reply
  ask_fits n b =
      by_test_law (is ack b) (offer l 0 first_number) _ (λ e. offer_fits 0 first_number (omega arith))
      (by_test_law (is enq b) GivesUp _ (λ e. tt) (by_test_law (ltb (n + 1) most_tries) (Goes (Pausing (n + 1)) l.next) GivesUp (λ e. (e, w.next)) tt))

  frame_fits : (limit n at b : ℕ) (text : List ℕ) → OnwardFits (frame_reply limit l n at b text)
  unfolding frame_reply next_number
  frame_fits limit n at b text =
      by_test_law (ltb at l.joined) _ Ends
      (λ e. by_test_law (is ack b || is eot b) (offer l (at + piece_at limit at text) (next_number l.next)) _
      (λ f. offer_fits (at + piece_at limit at text) (next_number l.next) (omega arith))
      (by_test_law (ltb n most_tries) (Goes (Offering (n + 1) at) l.next) Ends
      (λ f. let more = ltb-true n most_tries f in (place_within (n + 1) at (omega arith) (ltb-true at l.joined e), w.next))
      tt))
      tt

  late_fits : (s : Sending) → sending_within s ≡ true → OnwardFits (late_onward l s)
  late_fits (Asking n) h = tt
  late_fits (Pausing n) h = (h, w.next)
  late_fits (Offering n at) h = tt

  bytes_fit : (limit : ℕ) (s : Sending) (b : ℕ) (text : List ℕ) → OnwardFits (byte_onward limit l s b text)
  bytes_fit limit (Asking n) b text = ask_fits n b
  bytes_fit limit (Pausing n) b text = tt
  bytes_fit limit (Offering n at) b text = frame_fits limit n at b text

-- of a line that is within its limits and sends
module _ (limit : ℕ) (l : Line) (s : Sending) (b : ℕ) (text : List ℕ) where
  pub byte_fits : within_limits l ≡ true → l.state ≡ Out s → OnwardFits (byte_onward limit l s b text)
  byte_fits h e = bytes_fit l (within_facts l h) limit s b text

module _ (l : Line) (s : Sending) (k : ℕ) where
  pub seconds_fits : within_limits l ≡ true → l.state ≡ Out s → OnwardFits (seconds_onward l s k)
  unfolding seconds_onward
  seconds_fits h e =
      let w = within_facts l h in
      by_test_law (ltb (l.seconds + k) (wait_of s)) (Waits (l.seconds + k)) (late_onward l s)
      (λ f. omega (arith, ltb-true (l.seconds + k) (wait_of s) f, wait_short s)) (late_fits l w s (rw e at w.state))

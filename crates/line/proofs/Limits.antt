-- What being within the limits says of each field, and which transitions keep it.
-- Assumes nothing.
use mathlib.Core.Path.{◌≡◌, refl}
use mathlib.Core.Bool.{true, ◌&&◌}
use Prim.Native.Nat.{ℕ, ◌-◌, ◌≤◌, ◌<◌}
use native.Mathlib.Omega.{arith}
use borrow.Author.Tests.{leb-true, le-leb}
use lib.Dec.{leb}
use Rattle.memory.specs.Sizes.{message_limit, frame_limit, frame_part}
use Rattle.memory.proofs.Tests.{and_left, and_right}
use Rattle.digits.specs.Number.{most_number, next_number}
use Rattle.settings.specs.Settings.{speaks_frames}
use Rattle.line.specs.Line.{most_collected, most_seconds, last_within, sending_within, state_within, fresh_line, opened_line, closed_line, counts_within, within_limits, begun_line, collected_line, counted_line, waiting_line, accepted_line, refusing_line, asked_line, gone_line}
use Rattle.line.specs.declared.Line.{Line}
use Rattle.line.specs.declared.Sending.{Sending}

-- a line's part of the frames holds what it can collect, and the byte that ends the frame
pub collected_fits : (l : Line) → most_collected l < frame_part
unfolding most_collected
collected_fits l = omega arith

pub record Within (l : Line) : Type 0 where
  pub frames : speaks_frames l.settings ≡ true
  pub collected : l.collected ≤ most_collected l
  pub most : most_collected l < frame_part
  pub joined : l.joined ≤ message_limit
  pub seconds : l.seconds ≤ most_seconds
  pub next : l.next ≤ most_number
  pub last : last_within l.last ≡ true
  pub state : state_within l.state ≡ true

module _ (l : Line) where
  pub within_facts : within_limits l ≡ true → Within l
  unfolding within_limits
  within_facts e =
      let past = and_right (leb l.collected (most_collected l)) _ e in
      let rest₁ = and_left (counts_within l) _ past in
      let rest₂ = and_right (leb l.joined message_limit) _ rest₁ in
      let rest₃ = and_right (leb l.seconds most_seconds) _ rest₂ in
      let rest₄ = and_right (leb l.next most_number) _ rest₃ in
      record {
        frames = and_right (counts_within l) _ past;
        collected = leb-true _ _ (and_left (leb l.collected (most_collected l)) _ e);
        most = collected_fits l;
        joined = leb-true _ _ (and_left (leb l.joined message_limit) _ rest₁);
        seconds = leb-true _ _ (and_left (leb l.seconds most_seconds) _ rest₂);
        next = leb-true _ _ (and_left (leb l.next most_number) _ rest₃);
        last = and_left (last_within l.last) _ rest₄;
        state = and_right (last_within l.last) _ rest₄;
      }

  pub within_of : Within l → within_limits l ≡ true
  unfolding within_limits
  within_of w = rw (le-leb _ _ w.collected, le-leb _ _ w.joined, le-leb _ _ w.seconds, le-leb _ _ w.next, w.last, w.state, w.frames)

-- every transition keeps the limits
pub fresh_within : within_limits fresh_line ≡ true
unfolding within_limits most_collected
fresh_within = refl

module _ (l : Line) (w : Within l) where
  pub opened_within : Within (opened_line l)
  opened_within = record { frames = w.frames; collected = omega arith; most = collected_fits (opened_line l); joined = omega arith; seconds = omega arith; next = omega arith; last = refl; state = refl }

  pub closed_within : Within (closed_line l)
  closed_within = record { frames = w.frames; collected = omega arith; most = collected_fits (closed_line l); joined = omega arith; seconds = omega arith; next = omega arith; last = refl; state = refl }

  pub begun_within : Within (begun_line l)
  unfolding most_collected
  begun_within = record { frames = w.frames; collected = w.collected; most = collected_fits (begun_line l); joined = w.joined; seconds = w.seconds; next = w.next; last = w.last; state = refl }

  pub collected_within : (count : ℕ) → count ≤ most_collected l → Within (collected_line l count)
  unfolding most_collected
  collected_within count h = record { frames = w.frames; collected = h; most = collected_fits (collected_line l count); joined = w.joined; seconds = w.seconds; next = w.next; last = w.last; state = w.state }

  pub waiting_within : Within (waiting_line l)
  waiting_within = record { frames = w.frames; collected = omega arith; most = collected_fits (waiting_line l); joined = w.joined; seconds = omega arith; next = w.next; last = w.last; state = refl }

  pub accepted_within : (count : ℕ) → count ≤ message_limit → Within (accepted_line l count)
  unfolding next_number
  accepted_within count h = record { frames = w.frames; collected = omega arith; most = collected_fits (accepted_line l count); joined = h; seconds = omega arith; next = omega arith; last = le-leb _ _ w.next; state = refl }

  pub refusing_within : Within (refusing_line l)
  refusing_within = record { frames = w.frames; collected = omega arith; most = collected_fits (refusing_line l); joined = omega arith; seconds = omega arith; next = w.next; last = w.last; state = refl }

  pub counted_within : (count : ℕ) → count ≤ most_seconds → Within (counted_line l count)
  unfolding most_collected
  counted_within count h = record { frames = w.frames; collected = w.collected; most = collected_fits (counted_line l count); joined = w.joined; seconds = h; next = w.next; last = w.last; state = w.state }

  pub asked_within : (count : ℕ) → count ≤ message_limit → Within (asked_line l count)
  asked_within count h = record { frames = w.frames; collected = omega arith; most = collected_fits (asked_line l count); joined = h; seconds = omega arith; next = omega arith; last = refl; state = refl }

  pub gone_within : (s : Sending) (number : ℕ) → sending_within s ≡ true → number ≤ most_number → Within (gone_line l s number)
  unfolding most_collected
  gone_within s number h k = record { frames = w.frames; collected = w.collected; most = collected_fits (gone_line l s number); joined = w.joined; seconds = omega arith; next = k; last = w.last; state = h }

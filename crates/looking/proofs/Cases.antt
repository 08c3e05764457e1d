-- The look at an event goes to one of these cases: what holds of each of them holds of every look.
-- Assumes nothing.
use Rattle.std.specs.Prelude.{Err, None, Ok, Result, Some, ℕ}
use Rattle.frame.specs.declared.Flaw.TheVariants.{BadNumber, BadText, Torn, Unended, WrongCheck}
use Rattle.frame.specs.declared.Flaw.{Flaw}
use mathlib.Core.Path.{◌≡◌, refl}
use mathlib.Core.Bool.{Bool, true, false, cond}
use mathlib.Core.List.{List}
use Prim.Native.Nat.{ℕ, ◌+◌, ◌≤◌, ◌<◌}
use native.Mathlib.Omega.{arith}
use borrow.Author.Tests.{eqb-false, leb-true}
use lib.Dec.{eqb, leb}
use Rattle.memory.specs.Sizes.{frame_limit}
use Rattle.memory.specs.Tests.{is}
use Rattle.characters.specs.Control.{lf, stx}
use Rattle.frame.specs.Shape.{shape_of}
use Rattle.frame.specs.declared.End.{End}
use Rattle.frame.specs.declared.End.TheVariants.{Etb, Etx}
use Rattle.frame.proofs.Passed.{accepted_size}
use Rattle.records.specs.Records.{ends_with_cr, ends_with_l}
use Rattle.line.specs.Line.{most_collected, most_seconds, sending_within}
use Rattle.line.specs.Seconds.{passed_of}
use Rattle.line.specs.Turn.{turn_of}
use Rattle.characters.specs.Control.{enq, eot}
use Rattle.line.specs.declared.Line.{Line}
use Rattle.answers.specs.declared.Answer.TheVariants.{Nothing, Repeated, Ended, Dropped, TimedOut, Busy, Unended, Torn, WrongCheck, BadText, BadNumber, Refusing, OutOfTurn, TooLong, NoCr, Sends, GivenUp}
use Rattle.answers.specs.declared.Parcel.TheVariants.{Ending}
use Rattle.line.specs.declared.State.{State}
use Rattle.line.specs.declared.State.TheVariants.{Neutral, Waiting, Inside, Out}
use Rattle.line.specs.declared.Sending.{Sending}
use Rattle.digits.specs.Number.{most_number}
use Rattle.sending.specs.Onward.{byte_onward, seconds_onward}
use Rattle.sending.specs.declared.Onward.{Onward}
use Rattle.sending.specs.declared.Onward.TheVariants.{Stays, Waits, Goes, Ends, GivesUp}
use Rattle.sending.proofs.Fits.{OnwardFits, byte_fits, seconds_fits}
use Rattle.line.specs.declared.Turn.{Turn}
use Rattle.line.specs.declared.Turn.TheVariants.{Refused, Again, Missed, Overlong, InTurn}
use Rattle.line.proofs.Limits.{within_facts}
use Rattle.line.proofs.Turns.{in_turn_due}
use Rattle.looking.specs.Views.{frame_bytes, unfinished_text, joined_text}
use Rattle.looking.specs.Inner.Ready.{Own}
use Rattle.looking.specs.Looks.{end_look, turn_look, shape_look, frame_look, neutral_look, waiting_look, inside_look, by_state, passed_look, onward_look, byte_look, seconds_look, look_of}
use Rattle.looking.specs.Inner.Fitting.{TextFits}
use Rattle.looking.specs.declared.Kind.{Kind}
use Rattle.looking.specs.declared.Kind.TheVariants.{Byte, Seconds}
use Rattle.looking.specs.declared.Look.{Look}
use Rattle.looking.specs.declared.Look.TheVariants.{Done, Decides}
use Rattle.looking.specs.Verdicts.{Left, Opens, Closes, Begins, Counts, Collects, Refuses, Accepts, Awaits, GoesOn}
use Rattle.looking.proofs.Views.{length_frame}

-- the cases of a line that sends
pub record SendingCases (P : Look → Type 0) : Type 0 where
  pub stays : P (Done (Left Nothing))
  pub awaits : (n : ℕ) → n ≤ most_seconds → P (Done (Awaits n))
  pub goes : (s : Sending) (n : ℕ) → sending_within s ≡ true → n ≤ most_number → P (Done (GoesOn s n))
  pub over : P (Done (Closes (Sends Ending)))
  pub given_up : P (Done (Closes GivenUp))

-- all cases, with what is known in each
pub record Cases (P : Look → Type 0) (l : Line) : Type 0 where
  pub ignored : P (Done (Left Nothing))
  pub busy : P (Done (Left Busy))
  pub opens : P (Done Opens)
  pub ended : P (Done (Closes Ended))
  pub dropped : P (Done (Closes Dropped))
  pub timed_out : P (Done (Closes TimedOut))
  pub begins : P (Done Begins)
  pub counts : (n : ℕ) → n ≤ most_seconds → P (Done (Counts n))
  pub collects : l.collected < most_collected l → P (Done Collects)
  pub unended : P (Done (Refuses Unended))
  pub torn : P (Done (Refuses Torn))
  pub unchecked : P (Done (Refuses WrongCheck))
  pub foreign : P (Done (Refuses BadText))
  pub unnumbered : P (Done (Refuses BadNumber))
  pub refused : P (Done (Refuses Refusing))
  pub repeated : P (Done (Refuses Repeated))
  pub missed : P (Done (Refuses OutOfTurn))
  pub overlong : P (Done (Refuses TooLong))
  pub no_cr : P (Done (Refuses NoCr))
  pub accepts : (n : ℕ) → TextFits l n → P (Done (Accepts n))
  pub decides : (n : ℕ) → TextFits l n → P (Decides n)
  pub sends : (t : Sending) → l.state ≡ Out t → SendingCases P

module _ (P : Look → Type 0) (l : Line) (c : Cases P l) where
  by_test_law : (t : Bool) (x y : Look) → P x → P y → P (cond t x y)
  by_test_law true x y p q = p
  by_test_law false x y p q = q

  by_states : (s : State) (x y z : Look) (o : Sending → Look) → P x → P y → P z → ((t : Sending) → s ≡ Out t → P (o t)) → P (by_state s x y z o)
  by_states Neutral x y z o p q r f = p
  by_states Waiting x y z o p q r f = q
  by_states Inside x y z o p q r f = r
  by_states (Out t) x y z o p q r f = f t refl

  by_onward : SendingCases P → (o : Onward) → OnwardFits o → P (onward_look o)
  by_onward d Stays h = d.stays
  by_onward d (Waits n) h = d.awaits n h
  by_onward d (Goes s n) h = d.goes s n h.0 h.1
  by_onward d Ends h = d.over
  by_onward d GivesUp h = d.given_up

  by_seconds_law : (s : ℕ) → P (passed_look (passed_of l s))
  unfolding passed_of
  by_seconds_law s = sum (leb (l.seconds + s) most_seconds) refl
    where
      sum : (b : Bool) → leb (l.seconds + s) most_seconds ≡ b → P (passed_look (cond b (Some (l.seconds + s)) None))
      sum true e = c.counts (l.seconds + s) (leb-true (l.seconds + s) most_seconds e)
      sum false e = c.timed_out

  by_end : (end : End) (n : ℕ) (text : List ℕ) → TextFits l n → P (end_look end n text)
  by_end Etb n text t = c.accepts n t
  by_end Etx n text t = by_test_law (ends_with_cr text) _ _ (by_test_law (ends_with_l text) _ _ (c.decides n t) (c.accepts n t)) c.no_cr

  by_turn : (t : Turn) (number : ℕ) (end : End) (n : ℕ) (text : List ℕ) → n + 5 ≤ l.collected → turn_of l number n ≡ t → P (turn_look t end n text)
  by_turn Refused number end n text h e = c.refused
  by_turn Again number end n text h e = c.repeated
  by_turn Missed number end n text h e = c.missed
  by_turn Overlong number end n text h e = c.overlong
  by_turn InTurn number end n text h e = by_end end n text (h, (in_turn_due l number n e).room)

  module _ (t f : List ℕ) (own : Own l t f) where
    by_shape : (b : ℕ) (s : Result (ℕ × End × ℕ) Flaw) → shape_of frame_limit (frame_bytes l b f) ≡ s → P (shape_look s l t f)
    by_shape b (Err Unended) e = c.unended
    by_shape b (Err Torn) e = c.torn
    by_shape b (Err WrongCheck) e = c.unchecked
    by_shape b (Err BadText) e = c.foreign
    by_shape b (Err BadNumber) e = c.unnumbered
    by_shape b (Ok (number, end, n)) e =
        let size = accepted_size frame_limit (frame_bytes l b f) number end n e in
        by_turn (turn_of l number n) number end n (joined_text l n t f) (omega (arith, size, length_frame l b t f own)) refl

    by_frame : (b : ℕ) → P (frame_look l b t f)
    unfolding frame_look
    by_frame b = by_shape b (shape_of frame_limit (frame_bytes l b f)) refl

    -- inside and not judged: there is room for one byte more
    by_room : (t : Bool) (x : Look) → eqb l.collected (most_collected l) ≡ t → P x → P (cond t x (Done Collects))
    by_room true x e p = p
    by_room false x e p = c.collects (omega (arith, within_facts l own.within, eqb-false l.collected (most_collected l) e))

    by_inside : (b : ℕ) → P (inside_look l b t f)
    unfolding inside_look
    by_inside b = by_test_law (is lf b) _ _ (by_frame b) (by_room (eqb l.collected (most_collected l)) (frame_look l b t f) refl (by_frame b))

    by_neutral : (b : ℕ) → P (neutral_look b)
    unfolding neutral_look
    by_neutral b = by_test_law (is enq b) _ _ c.opens c.ignored

    by_closing : (t : Bool) → P (Done (Closes (cond t Ended Dropped)))
    by_closing true = c.ended
    by_closing false = c.dropped

    by_waiting : (b : ℕ) → P (waiting_look l b)
    unfolding waiting_look
    by_waiting b = by_test_law (is stx b) _ _ c.begins (by_test_law (is eot b) _ _ (by_closing (eqb l.joined 0)) (by_test_law (is enq b) _ _ c.busy c.ignored))

    pub every_look : (k : Kind) → P (look_of l k t f)
    unfolding byte_look seconds_look
    every_look (Byte b) =
        by_states l.state _ _ _ _ (by_neutral b) (by_waiting b) (by_inside b)
        (λ s e. by_onward (c.sends s e) (byte_onward frame_limit l s b (unfinished_text l t)) (byte_fits frame_limit l s b (unfinished_text l t) own.within e))
    every_look (Seconds n) = by_states l.state _ _ _ _ c.ignored (by_seconds_law n) (by_seconds_law n) (λ s e. by_onward (c.sends s e) (seconds_onward l s n) (seconds_fits l s n own.within e))

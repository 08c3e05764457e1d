-- What the text of a frame has passed, on any line, where a look joins it: it is of allowed bytes (24), and with it the line's text is within the limit (28).
-- Where the look decides, that text ends with CR (29).
-- Assumes nothing.
use Rattle.std.specs.Prelude.{Err, None, Ok, Option, Result, Some, ℕ}
use Rattle.frame.specs.declared.Flaw.TheVariants.{BadNumber, BadText, Torn, Unended, WrongCheck}
use Rattle.frame.specs.declared.Flaw.{Flaw}
use mathlib.Core.Path.{◌≡◌, refl, ap, ◌∙◌}
use mathlib.Core.Bool.{Bool, true, false, cond}
use mathlib.Core.List.{List, [], ◌∷◌}
use Prim.Native.Nat.{ℕ, ◌+◌, ◌-◌, ◌≤◌}
use native.Mathlib.Omega.{arith}
use lib.Dec.{eqb}
use lib.ListN.{length, length-append, length-take}
use Rattle.memory.specs.Sizes.{message_limit, frame_limit}
use Rattle.memory.specs.Parts.{part}
use Rattle.memory.specs.Tests.{unless, is, all}
use Rattle.memory.proofs.Parts.{part_append_left, part_part}
use Rattle.characters.specs.Control.{stx, enq, eot, lf}
use Rattle.characters.specs.Allowed.{allowed}
use Rattle.frame.specs.Shape.{text_in, shape_of}
use Rattle.frame.specs.declared.End.{End}
use Rattle.frame.specs.declared.End.TheVariants.{Etb, Etx}
use Rattle.frame.proofs.Passed.{accepted_size, accepted_clean}
use Rattle.records.specs.Records.{ends_with_cr, ends_with_l}
use Rattle.line.specs.Line.{most_collected}
use Rattle.line.specs.Seconds.{passed_of}
use Rattle.line.specs.Turn.{turn_of}
use Rattle.line.specs.declared.Line.{Line}
use Rattle.line.specs.declared.State.{State}
use Rattle.line.specs.declared.State.TheVariants.{Neutral, Waiting, Inside, Out}
use Rattle.line.specs.declared.Sending.{Sending}
use Rattle.sending.specs.Onward.{byte_onward, seconds_onward}
use Rattle.sending.specs.declared.Onward.{Onward}
use Rattle.sending.specs.declared.Onward.TheVariants.{Stays, Waits, Goes, Ends, GivesUp}
use Rattle.line.specs.declared.Turn.{Turn}
use Rattle.line.specs.declared.Turn.TheVariants.{Refused, Again, Missed, Overlong, InTurn}
use Rattle.line.proofs.Turns.{in_turn_due}
use Rattle.answers.specs.declared.Answer.TheVariants.{NoCr}
use Rattle.looking.specs.Views.{frame_bytes, frame_text, unfinished_text, joined_text}
use Rattle.looking.specs.Looks.{end_look, turn_look, shape_look, frame_look, neutral_look, waiting_look, inside_look, by_state, passed_look, onward_look, byte_look, seconds_look, look_of}
use Rattle.looking.specs.Verdicts.{Collects, Refuses, Accepts}
use Rattle.looking.specs.declared.Act.{Act}
use Rattle.looking.specs.declared.Act.TheVariants.{Leave, Open, Close, Begin, Count, Collect, Refuse, Accept, Store, Object, Await, Go}
use Rattle.looking.specs.declared.Kind.{Kind}
use Rattle.looking.specs.declared.Kind.TheVariants.{Byte, Seconds}
use Rattle.looking.specs.declared.Look.{Look}
use Rattle.looking.specs.declared.Look.TheVariants.{Done, Decides}

-- ---- what holds of a look

pub record Joinable (l : Line) (n : ℕ) (texts frames : List ℕ) : Type 0 where
  pub clean : all allowed (frame_text n frames) ≡ true
  pub short : length (joined_text l n texts frames) ≤ message_limit

abbrev pub ActJoins : Act → Line → List ℕ → List ℕ → Type 0
ActJoins Leave l texts frames = Unit {0}
ActJoins Open l texts frames = Unit {0}
ActJoins Close l texts frames = Unit {0}
ActJoins Begin l texts frames = Unit {0}
ActJoins (Count n) l texts frames = Unit {0}
ActJoins Collect l texts frames = Unit {0}
ActJoins Refuse l texts frames = Unit {0}
ActJoins (Accept n) l texts frames = Joinable l n texts frames
ActJoins (Store n) l texts frames = Unit {0}
ActJoins (Object n) l texts frames = Unit {0}
ActJoins (Await n) l texts frames = Unit {0}
ActJoins (Go s n) l texts frames = Unit {0}

abbrev pub LookJoins : Look → Line → List ℕ → List ℕ → Type 0
LookJoins (Done v) l texts frames = ActJoins v.act l texts frames
LookJoins (Decides n) l texts frames = Joinable l n texts frames × (ends_with_cr (joined_text l n texts frames) ≡ true)

-- ---- the frame

part_le : (d : List ℕ) (at n : ℕ) → length (part d at n) ≤ n
unfolding part
part_le d at n = rw length-take (omega arith)

-- the text of the frame that the byte b ends lies in what is collected of it
frame_text_law : (l : Line) (b : ℕ) (frames : List ℕ) (n : ℕ) → length (frame_bytes l b frames) ≡ n + 6 → text_in (frame_bytes l b frames) ≡ frame_text n frames
frame_text_law l b frames n h =
    let held = part frames 0 l.collected in
    let long : length held ≡ n + 5 = omega (arith, length-append held (b ∷ []), h) in
    let few : length held ≤ l.collected = part_le frames 0 l.collected in
    let size : length (frame_bytes l b frames) - 6 ≡ n = omega (arith, h) in
    ap (part (frame_bytes l b frames) 1) size ∙ part_append_left held (b ∷ []) 1 n (omega arith) ∙ part_part frames 0 l.collected 1 n (omega arith)

-- ---- the look, front to back

module _ (l : Line) (texts frames : List ℕ) where
  abbrev Joins : Look → Type 0
  Joins x = LookJoins x l texts frames

  joined_short : (n : ℕ) → l.joined + n ≤ message_limit → length (joined_text l n texts frames) ≤ message_limit
  joined_short n h = rw length-append (omega (arith, part_le texts 0 l.joined, part_le frames 1 n))

  by_test_law : (t : Bool) (x y : Look) → Joins x → Joins y → Joins (cond t x y)
  by_test_law true x y p q = p
  by_test_law false x y p q = q

  by_states : (s : State) (x y z : Look) (o : Sending → Look) → Joins x → Joins y → Joins z → ((t : Sending) → Joins (o t)) → Joins (by_state s x y z o)
  by_states Neutral x y z o p q r f = p
  by_states Waiting x y z o p q r f = q
  by_states Inside x y z o p q r f = r
  by_states (Out t) x y z o p q r f = f t

  by_onward : (o : Onward) → Joins (onward_look o)
  by_onward Stays = tt
  by_onward (Waits n) = tt
  by_onward (Goes s n) = tt
  by_onward Ends = tt
  by_onward GivesUp = tt

  by_passed : (p : Option ℕ) → Joins (passed_look p)
  by_passed (Some n) = tt
  by_passed None = tt

  by_cr : (n : ℕ) (b : Bool) → Joinable l n texts frames → ends_with_cr (joined_text l n texts frames) ≡ b
      → Joins (unless b (Done (Refuses NoCr)) (cond (ends_with_l (joined_text l n texts frames)) (Decides n) (Done (Accepts n))))
  by_cr n true j e = by_test_law (ends_with_l (joined_text l n texts frames)) _ _ (j, e) j
  by_cr n false j e = tt

  by_end : (end : End) (n : ℕ) → Joinable l n texts frames → Joins (end_look end n (joined_text l n texts frames))
  by_end Etb n j = j
  by_end Etx n j = by_cr n (ends_with_cr (joined_text l n texts frames)) j refl

  by_turn : (t : Turn) (number : ℕ) (end : End) (n : ℕ) → all allowed (frame_text n frames) ≡ true → turn_of l number n ≡ t → Joins (turn_look t end n (joined_text l n texts frames))
  by_turn Refused number end n c e = tt
  by_turn Again number end n c e = tt
  by_turn Missed number end n c e = tt
  by_turn Overlong number end n c e = tt
  by_turn InTurn number end n c e = by_end end n (record { clean = c; short = joined_short n (in_turn_due l number n e).room })

  by_shape : (b : ℕ) (s : Result (ℕ × End × ℕ) Flaw) → shape_of frame_limit (frame_bytes l b frames) ≡ s → Joins (shape_look s l texts frames)
  by_shape b (Err Unended) e = tt
  by_shape b (Err Torn) e = tt
  by_shape b (Err WrongCheck) e = tt
  by_shape b (Err BadText) e = tt
  by_shape b (Err BadNumber) e = tt
  by_shape b (Ok (number, end, n)) e =
      let text = frame_text_law l b frames n (accepted_size frame_limit (frame_bytes l b frames) number end n e) in
      by_turn (turn_of l number n) number end n (rw text at (accepted_clean frame_limit (frame_bytes l b frames) number end n e)) refl

  by_frame : (b : ℕ) → Joins (frame_look l b texts frames)
  unfolding frame_look
  by_frame b = by_shape b (shape_of frame_limit (frame_bytes l b frames)) refl

  by_inside : (b : ℕ) → Joins (inside_look l b texts frames)
  unfolding inside_look
  by_inside b = by_test_law (is lf b) _ _ (by_frame b) (by_test_law (eqb l.collected (most_collected l)) (frame_look l b texts frames) (Done Collects) (by_frame b) tt)

  by_neutral : (b : ℕ) → Joins (neutral_look b)
  unfolding neutral_look
  by_neutral b = by_test_law (is enq b) _ _ tt tt

  by_waiting : (b : ℕ) → Joins (waiting_look l b)
  unfolding waiting_look
  by_waiting b = by_test_law (is stx b) _ _ tt (by_test_law (is eot b) _ _ tt (by_test_law (is enq b) _ _ tt tt))

  pub look_joins : (k : Kind) → Joins (look_of l k texts frames)
  unfolding byte_look seconds_look
  look_joins (Byte b) = by_states l.state _ _ _ _ (by_neutral b) (by_waiting b) (by_inside b) (λ s. by_onward (byte_onward frame_limit l s b (unfinished_text l texts)))
  look_joins (Seconds n) = by_states l.state _ _ _ _ tt (by_passed (passed_of l n)) (by_passed (passed_of l n)) (λ s. by_onward (seconds_onward l s n))

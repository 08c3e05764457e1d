-- What an event comes to, read off its own line alone: the record, and its parts of the unfinished texts and of the frames. Neither the journal nor another line is looked at.
-- Assumes nothing.
use Rattle.frame.specs.declared.Flaw.TheVariants.{BadNumber, BadText, Torn, Unended, WrongCheck}
use Rattle.frame.specs.declared.Flaw.{Flaw}
use Rattle.std.specs.Prelude.{ℕ, cond, List, eqb, ltb, length, Err, None, Ok, Option, Result, Some}
use Rattle.memory.specs.Sizes.{lines, frame_limit}
use Rattle.memory.specs.Tests.{unless, is}
use Rattle.characters.specs.Control.{stx, lf}
use Rattle.frame.specs.Shape.{shape_of}
use Rattle.frame.specs.declared.End.{End}
use Rattle.frame.specs.declared.End.TheVariants.{Etb, Etx}
use Rattle.records.specs.Records.{ends_with_cr, ends_with_l}
use Rattle.line.specs.Line.{most_collected, within_limits}
use Rattle.line.specs.Seconds.{passed_of}
use Rattle.line.specs.Turn.{turn_of}
use Rattle.characters.specs.Control.{enq, eot}
use Rattle.line.specs.declared.Line.{Line}
use Rattle.line.specs.declared.State.{State}
use Rattle.line.specs.declared.State.TheVariants.{Neutral, Waiting, Inside, Out}
use Rattle.line.specs.declared.Sending.{Sending}
use Rattle.line.specs.declared.Turn.{Turn}
use Rattle.line.specs.declared.Turn.TheVariants.{Refused, Again, Missed, Overlong, InTurn}
use Rattle.answers.specs.declared.Answer.TheVariants.{Nothing, Repeated, Ended, Dropped, TimedOut, Busy, Unended, Torn, WrongCheck, BadText, BadNumber, Refusing, OutOfTurn, TooLong, NoCr, NoLine, WrongSize, BeyondLimits, Sends, GivenUp}
use Rattle.answers.specs.declared.Parcel.TheVariants.{Ending}
use Rattle.sending.specs.Onward.{byte_onward, seconds_onward}
use Rattle.sending.specs.declared.Onward.{Onward}
use Rattle.sending.specs.declared.Onward.TheVariants.{Stays, Waits, Goes, Ends, GivesUp}
use Rattle.looking.specs.Views.{frame_bytes, unfinished_text, joined_text, frames_of, texts_of}
use Rattle.looking.specs.Lent.{right_lengths}
use Rattle.looking.specs.declared.Event.{Event}
use Rattle.looking.specs.declared.Kind.{Kind}
use Rattle.looking.specs.declared.Kind.TheVariants.{Byte, Seconds}
use Rattle.looking.specs.declared.Look.{Look}
use Rattle.looking.specs.declared.Look.TheVariants.{Done, Decides}
use Rattle.looking.specs.Verdicts.{Left, Opens, Closes, Begins, Counts, Collects, Refuses, Accepts, Awaits, GoesOn}

-- a frame in turn, by its end: with ETB it is only accepted; with ETX the joined text has to end with CR (29),
-- and the message is decided if its last record begins with L [F7, F8, A2, A29]
abbrev pub end_look : End → ℕ → List ℕ → Look
end_look Etb n text = Done (Accepts n)
end_look Etx n text = unless (ends_with_cr text) (Done (Refuses NoCr)) (cond (ends_with_l text) (Decides n) (Done (Accepts n)))

-- a whole frame, by its turn: 26, 3, 27, 28 [O4]
abbrev pub turn_look : Turn → End → ℕ → List ℕ → Look
turn_look Refused end n text = Done (Refuses Refusing)
turn_look Again end n text = Done (Refuses Repeated)
turn_look Missed end n text = Done (Refuses OutOfTurn)
turn_look Overlong end n text = Done (Refuses TooLong)
turn_look InTurn end n text = end_look end n text

-- a frame, by its shape: 21 to 25 [O4]
abbrev pub shape_look : Result (ℕ × End × ℕ) Flaw → Line → List ℕ → List ℕ → Look
shape_look (Err Unended) l texts frames = Done (Refuses Unended)
shape_look (Err Torn) l texts frames = Done (Refuses Torn)
shape_look (Err WrongCheck) l texts frames = Done (Refuses WrongCheck)
shape_look (Err BadText) l texts frames = Done (Refuses BadText)
shape_look (Err BadNumber) l texts frames = Done (Refuses BadNumber)
shape_look (Ok (number, end, n)) l texts frames = turn_look (turn_of l number n) end n (joined_text l n texts frames)

-- the frame that the byte b ends
unfoldable pub frame_look : Line → ℕ → List ℕ → List ℕ → Look
frame_look l b texts frames = shape_look (shape_of frame_limit (frame_bytes l b frames)) l texts frames

-- a byte on a neutral line, on a waiting one, and inside a frame [E5, A1]
unfoldable pub neutral_look : ℕ → Look
neutral_look b = cond (is enq b) (Done Opens) (Done (Left Nothing))

-- on a waiting line: STX, EOT, ENQ, or ignored [E6, A5, A6, A20]
unfoldable pub waiting_look : Line → ℕ → Look
waiting_look l b =
    cond (is stx b) (Done Begins)
    (cond (is eot b) (Done (Closes (cond (eqb l.joined 0) Ended Dropped)))
    (cond (is enq b) (Done (Left Busy)) (Done (Left Nothing))))

-- a frame is judged at its first LF, or at the last byte of its line's limit [E7]
unfoldable pub inside_look : Line → ℕ → List ℕ → List ℕ → Look
inside_look l b texts frames =
    cond (is lf b) (frame_look l b texts frames)
    (cond (eqb l.collected (most_collected l)) (frame_look l b texts frames) (Done Collects))

-- by the line's state [E2]
abbrev pub by_state : {A : Type 0} → State → A → A → A → (Sending → A) → A
by_state Neutral neutral waiting inside sending = neutral
by_state Waiting neutral waiting inside sending = waiting
by_state Inside neutral waiting inside sending = inside
by_state (Out s) neutral waiting inside sending = sending s

-- seconds on an open line [A7]
abbrev pub passed_look : Option ℕ → Look
passed_look (Some n) = Done (Counts n)
passed_look None = Done (Closes TimedOut)

-- what a byte or seconds make of a sending: everything is answered 9, but a byte in the pause (0) and what drops it (61) [A9, A61, S4]
abbrev pub onward_look : Onward → Look
onward_look Stays = Done (Left Nothing)
onward_look (Waits n) = Done (Awaits n)
onward_look (Goes s n) = Done (GoesOn s n)
onward_look Ends = Done (Closes (Sends Ending))
onward_look GivesUp = Done (Closes GivenUp)

-- a byte, and seconds, by the line's state; the text that is sent lies where an unfinished one does
unfoldable pub byte_look : Line → ℕ → List ℕ → List ℕ → Look
byte_look l b texts frames =
    by_state l.state (neutral_look b) (waiting_look l b) (inside_look l b texts frames)
    (λ s. onward_look (byte_onward frame_limit l s b (unfinished_text l texts)))

-- seconds, on an open line and in a sending [E8, E10]
unfoldable pub seconds_look : Line → ℕ → Look
seconds_look l n =
    by_state l.state (Done (Left Nothing)) (passed_look (passed_of l n)) (passed_look (passed_of l n)) (λ s. onward_look (seconds_onward l s n))

-- an event, by its kind [E4]
abbrev pub look_of : Line → Kind → List ℕ → List ℕ → Look
look_of l (Byte b) texts frames = byte_look l b texts frames
look_of l (Seconds s) texts frames = seconds_look l s

-- 40, 41, 42, then the look: of the journal only its length is asked [A40, O3]
unfoldable pub look_alone : Line → Event → ℕ → List ℕ → List ℕ → Look
look_alone l e journal unfinished frames =
    unless (ltb e.line lines) (Done (Left NoLine))
    (unless (right_lengths journal (length unfinished) (length frames)) (Done (Left WrongSize))
    (unless (within_limits l) (Done (Left BeyondLimits))
    (look_of l e.kind (texts_of e.line unfinished) (frames_of e.line frames))))

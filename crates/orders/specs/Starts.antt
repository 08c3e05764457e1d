-- The start of a sending on a line: what it comes to, and what is left.
-- Assumes nothing.
use Rattle.faults.specs.declared.Flaw.TheVariants.{Faulty, NotText}
use Rattle.faults.specs.declared.Flaw.{Flaw}
use Rattle.std.specs.Prelude.{ℕ, Bool, true, false, ◌&&◌, List, ltb, length, Err, Ok, Result}
use Rattle.memory.specs.Sizes.{lines}
use Rattle.memory.specs.Parts.{splice}
use Rattle.memory.specs.Tests.{unless}
use Rattle.settings.specs.Settings.{speaks_frames}
use Rattle.line.specs.Line.{asked_line}
use Rattle.line.specs.declared.Line.{Line}
use Rattle.line.specs.declared.State.{State}
use Rattle.line.specs.declared.State.TheVariants.{Neutral, Waiting, Inside, Out}
use Rattle.faults.specs.Faults.{fault_of}
use Rattle.answers.specs.declared.Answer.{Answer}
use Rattle.answers.specs.declared.Answer.TheVariants.{Sends, Malformed, Unsendable, NotNeutral, NoLine, WrongSize, BeyondLimits}
use Rattle.answers.specs.declared.Parcel.TheVariants.{Enquiry}
use Rattle.looking.specs.Lent.{right_lengths}
use Rattle.looking.specs.Views.{text_start}

abbrev pub is_neutral : State → Bool
is_neutral Neutral = true
is_neutral Waiting = false
is_neutral Inside = false
is_neutral (Out s) = false

-- only a neutral line of frames starts to send [A60, B1]
abbrev pub can_start : Line → Bool
can_start l = is_neutral l.state && speaks_frames l.settings

-- only a message is sent: else 46, or its first fault with the place of that record [S1, R22]
abbrev pub text_look : Result (Unit {0}) Flaw → Result (Unit {0}) Answer
text_look (Ok tt) = Ok tt
text_look (Err NotText) = Err Malformed
text_look (Err (Faulty f place)) = Err (Unsendable f place)

-- 40, 41, 42, 60, then the text; `within` says whether the line's record is within its limits, and `can` whether it can start [A60, O7]
unfoldable pub start_look : ℕ → Bool → Bool → List ℕ → ℕ → ℕ → ℕ → Result (Unit {0}) Answer
start_look i within can text journal unfinished frames =
    unless (ltb i lines) (Err NoLine)
    (unless (right_lengths journal unfinished frames) (Err WrongSize)
    (unless within (Err BeyondLimits)
    (unless can (Err NotNeutral)
    (text_look (fault_of text)))))

-- the answer: our ENQ is to be sent, or what it is refused with [A9]
abbrev pub start_answer : Result (Unit {0}) Answer → Answer
start_answer (Ok tt) = Sends Enquiry
start_answer (Err a) = a

-- the line's record: a refusal leaves it [L1, L13]
abbrev pub line_started : Result (Unit {0}) Answer → Line → List ℕ → Line
line_started (Ok tt) l text = asked_line l (length text)
line_started (Err a) l text = l

-- and the unfinished texts: the text stands at the start of the line's part, whose rest keeps its bytes [L13]
abbrev pub texts_started : Result (Unit {0}) Answer → ℕ → List ℕ → List ℕ → List ℕ
texts_started (Ok tt) i text unfinished = splice unfinished (text_start i) text
texts_started (Err a) i text unfinished = unfinished

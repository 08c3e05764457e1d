-- A host's calls for a sending, over plain numbers: its start, and the frame that its line offers, or our last reply to a strip reader.
-- Assumes nothing.
use Rattle.framing.specs.declared.Refusal.{Refusal}
use Rattle.answers.specs.declared.Answer.{Answer}
use Rattle.std.specs.Prelude.{ℕ, ◌≡◌, ◌&&◌, List, eqb, leb, ltb, length, Err, Ok, Result}
use Rattle.memory.specs.Sizes.{lines, frame_limit, unfinished_size}
use Rattle.memory.specs.Parts.{splice}
use Rattle.memory.specs.Tests.{unless}
use Rattle.settings.specs.Settings.{by_dialogue}
use Rattle.line.specs.declared.Line.{Line}
use Rattle.answers.specs.InNumbers.{in_numbers, done, refused_with}
use Rattle.answers.specs.declared.Answer.TheVariants.{Malformed, NotFitting, NoLine, WrongSize, BeyondLimits}
use Rattle.answers.specs.declared.Answered.{Answered}
use Rattle.answers.specs.declared.Made.{Made}
use Rattle.looking.specs.Views.{texts_of, unfinished_text}
use Rattle.sending.specs.Offered.{frame_now}
use Rattle.receiving.specs.Steps.{Memory}
use Rattle.strips.specs.Replies.{replied_of, reply_block}
use Rattle.layout.specs.Layout.{reply_at, number_at}
use Rattle.numbers.specs.Plain.{within_numbers, line_of, with_line}
use Rattle.orders.specs.Starts.{can_start, start_look, start_answer, line_started, texts_started}

-- a start on the line that these numbers stand for [H3]
abbrev pub look_from : List ℕ → ℕ → List ℕ → ℕ → ℕ → ℕ → Result (Unit {0}) Answer
look_from ns i text journal unfinished frames = start_look i (within_numbers ns i) (can_start (line_of ns i)) text journal unfinished frames

-- the numbers after it
abbrev pub numbers_started : Result (Unit {0}) Answer → List ℕ → ℕ → List ℕ → List ℕ
numbers_started (Ok tt) ns i text = with_line ns i (line_started (Ok tt) (line_of ns i) text)
numbers_started (Err a) ns i text = ns

-- what a start says: its answer, and every number and byte that it is lent to write [S1, H4]
pub record SentBy (x : Result (Unit {0}) Answer) (ns : List ℕ) (i : ℕ) (text u : List ℕ) (r : Answered) (ns' u' : List ℕ) : Type 0 where
  pub result : r ≡ in_numbers (start_answer x)
  pub numbers : ns' ≡ numbers_started x ns i text
  pub unfinished : u' ≡ texts_started x i text u

abbrev pub Sent : List ℕ → ℕ → List ℕ → Memory → Answered → List ℕ → List ℕ → Type 0
Sent ns i text m r ns' u' = SentBy (look_from ns i text (length m.journal) (length m.unfinished) (length m.frames)) ns i text m.unfinished r ns' u'

-- the frame that a line offers, of the text in its unfinished part
abbrev pub frame_on : Line → ℕ → List ℕ → List ℕ
frame_on l i u = frame_now frame_limit l (unfinished_text l (texts_of i u))

-- what goes out on a line: the frame that it offers, or our last reply to its reader [S2, B11]
abbrev pub outgoing_on : List ℕ → ℕ → List ℕ → List ℕ
outgoing_on ns i u = by_dialogue (line_of ns i).settings.dialogue (frame_on (line_of ns i) i u) (λ p. reply_block (replied_of (number_at ns i reply_at)))

-- it is put out over the start of the memory, or 47 and nothing is written
pub record PutOut (frame out : List ℕ) (r : Made) (out' : List ℕ) : Type 0 where
  pub answer : r ≡ unless (leb (length frame) (length out)) (refused_with NotFitting) (done (length frame))
  pub after : out' ≡ unless (leb (length frame) (length out)) out (splice out 0 frame)

abbrev pub made_by_writing : Result ℕ Refusal → Made
made_by_writing (Err Refusal.Malformed) = refused_with Malformed
made_by_writing (Err Refusal.NotFitting) = refused_with NotFitting
made_by_writing (Ok n) = done n

-- what fetching says: 40, 41 of the unfinished texts, 42, 47, or what goes out; nothing has no bytes [S2, O7, B11]
unfoldable pub fetch_answer : List ℕ → ℕ → List ℕ → List ℕ → Made
fetch_answer ns i u out =
    unless (ltb i lines) (refused_with NoLine)
    (unless (eqb (length u) unfinished_size) (refused_with WrongSize)
    (unless (within_numbers ns i) (refused_with BeyondLimits)
    (unless (leb (length (outgoing_on ns i u)) (length out)) (refused_with NotFitting)
    (done (length (outgoing_on ns i u))))))

unfoldable pub fetched_over : List ℕ → ℕ → List ℕ → List ℕ → List ℕ
fetched_over ns i u out =
    unless (ltb i lines && (eqb (length u) unfinished_size && (within_numbers ns i && leb (length (outgoing_on ns i u)) (length out)))) out
    (splice out 0 (outgoing_on ns i u))

pub record Fetched (ns : List ℕ) (i : ℕ) (u out : List ℕ) (r : Made) (out' : List ℕ) : Type 0 where
  pub answer : r ≡ fetch_answer ns i u out
  pub after : out' ≡ fetched_over ns i u out

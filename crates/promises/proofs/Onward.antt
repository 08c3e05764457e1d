-- An event on a line that sends: its answer, what goes out and what the line then has are told by what the event makes of the sending. Nothing else changes.
-- Assumes nothing.
use mathlib.Core.Path.{◌≡◌, refl, ap, ◌∙◌}
use mathlib.Core.Logic.{◌≢◌}
use mathlib.Core.List.{[]}
use Prim.Native.Nat.{ℕ, ◌<◌}
use borrow.Author.Tests.{ne_eqb}
use Rattle.memory.specs.Sizes.{lines, frame_limit}
use Rattle.room.specs.Room.{todays_shares}
use Rattle.journal_laws.specs.Runs.{State as Store}
use Rattle.answers.specs.Paper.{number_of}
use Rattle.answers.specs.declared.Answer.{Answer}
use Rattle.answers.specs.declared.Answer.TheVariants.{Nothing, Sends, GivenUp}
use Rattle.answers.specs.declared.Parcel.TheVariants.{Ending}
use Rattle.settings.specs.declared.Dialogue.TheVariants.{Frames}
use Rattle.gateway.specs.Events.{dialogue_at}
use Rattle.line.specs.Seconds.{passed_of}
use Rattle.line.specs.declared.State.{State as LineState}
use Rattle.line.specs.declared.State.TheVariants.{Neutral, Out}
use Rattle.line.specs.declared.Sending.{Sending}
use Rattle.sending.specs.Onward.{byte_onward, seconds_onward}
use Rattle.sending.specs.declared.Onward.{Onward}
use Rattle.sending.specs.declared.Onward.TheVariants.{Stays, Waits, Goes, Ends, GivesUp}
use Rattle.looking.specs.Looks.{neutral_look, waiting_look, inside_look, by_state, passed_look, onward_look, byte_look, seconds_look, look_of}
use Rattle.looking.specs.Verdicts.{Left, Closes, Awaits, GoesOn}
use Rattle.looking.specs.declared.Kind.{Kind}
use Rattle.looking.specs.declared.Kind.TheVariants.{Byte, Seconds}
use Rattle.looking.specs.declared.Look.{Look}
use Rattle.looking.specs.declared.Look.TheVariants.{Done}
use Rattle.looking.specs.declared.Verdict.{Verdict}
use Rattle.receiving.specs.Settled.{line_after}
use Rattle.receiving.specs.Verdicts.{decided, own_work}
use Rattle.serial.specs.Serial.{event}
use Rattle.promises.specs.Machine.{State, Response, response, Coming, happens, starts, step, Parts, parts_of, frames_out, told, store_of, came, starting}
use Rattle.promises.specs.Runs.{answered}
use Rattle.promises.specs.Inner.ByParts.{left, on_frames}
use Rattle.promises.specs.Sending.{Intact}
use Rattle.promises.specs.Clean.{unfinished_in}
use Rattle.promises.proofs.Parts.{told_frames}
use Rattle.promises.proofs.Framed.{framed_answer, framed_own, framed_journal}
use Rattle.promises.proofs.Sound.{shaped_intact}
use Rattle.promises.proofs.Shapes.{event_shaped}
use Rattle.promises.proofs.Dialogues.{still_frames}

-- what a byte, or seconds, make of the sending of a line that has these parts
abbrev pub onward_by : Parts → Sending → Kind → Onward
onward_by p t (Byte b) = byte_onward frame_limit p.line t b (unfinished_in p)
onward_by p t (Seconds n) = seconds_onward p.line t n

-- what is done then, with its answer
abbrev pub verdict_on : Onward → Verdict
verdict_on Stays = Left Nothing
verdict_on (Waits n) = Awaits n
verdict_on (Goes s n) = GoesOn s n
verdict_on Ends = Closes (Sends Ending)
verdict_on GivesUp = Closes GivenUp

abbrev pub answer_on : Onward → Answer
answer_on o = (verdict_on o).answer

-- and what the line has: its memory stays as it is
abbrev pub parts_on : Onward → Parts → Parts
parts_on o p = record { line = line_after (verdict_on o).act p.line; texts = p.texts; frames = p.frames; memo = p.memo }

-- the answer, with what goes out by it
abbrev pub said_on : Onward → Parts → Response
said_on o p = response (answer_on o) (frames_out (answer_on o) (parts_on o p))

-- where its sending is then; where it is over, the line is neutral
abbrev pub state_on : Onward → Sending → LineState
state_on Stays t = Out t
state_on (Waits n) t = Out t
state_on (Goes s n) t = Out s
state_on Ends t = Neutral
state_on GivesUp t = Neutral

pub state_on_law : (o : Onward) (t : Sending) (p : Parts) → p.line.state ≡ Out t → (parts_on o p).line.state ≡ state_on o t
state_on_law Stays t p e = e
state_on_law (Waits n) t p e = e
state_on_law (Goes s n) t p e = refl
state_on_law Ends t p e = refl
state_on_law GivesUp t p e = refl

look_verdict : (o : Onward) → onward_look o ≡ Done (verdict_on o)
look_verdict Stays = refl
look_verdict (Waits n) = refl
look_verdict (Goes s n) = refl
look_verdict Ends = refl
look_verdict GivesUp = refl

verdict_left : (o : Onward) (i : ℕ) (p : Parts) (k : Kind) (j : Store) → left (verdict_on o) i p k j ≡ (said_on o p, parts_on o p, j)
verdict_left Stays i p k j = refl
verdict_left (Waits n) i p k j = refl
verdict_left (Goes s n) i p k j = refl
verdict_left Ends i p k j = refl
verdict_left GivesUp i p k j = refl

module _ (p : Parts) (t : Sending) (out : p.line.state ≡ Out t) where
  look_on : (k : Kind) → look_of p.line k p.texts p.frames ≡ Done (verdict_on (onward_by p t k))
  unfolding byte_look seconds_look
  look_on (Byte b) =
      ap (λ (x : LineState). by_state x (neutral_look b) (waiting_look p.line b) (inside_look p.line b p.texts p.frames) (λ s. onward_look (onward_by p s (Byte b)))) out
      ∙ look_verdict (onward_by p t (Byte b))
  look_on (Seconds n) =
      ap (λ (x : LineState). by_state x (Done (Left Nothing)) (passed_look (passed_of p.line n)) (passed_look (passed_of p.line n)) (λ s. onward_look (onward_by p s (Seconds n)))) out
      ∙ look_verdict (onward_by p t (Seconds n))

  event_on_law : (i : ℕ) (k : Kind) (j : Store) → on_frames i p k j ≡ (said_on (onward_by p t k) p, parts_on (onward_by p t k) p, j)
  unfolding own_work
  event_on_law i k j =
      ap (λ (x : Look). left (decided x todays_shares p.line j.ledger i j.journal p.texts p.frames) i p k j) (look_on k) ∙ verdict_left (onward_by p t k) i p k j

module _ (s : State) (w : Intact s) (i : ℕ) (h : i < lines) (speaks : dialogue_at s.gateway i ≡ Frames) (t : Sending) (out : (parts_of s i).line.state ≡ Out t) (k : Kind) where
  -- what it makes of the line's sending
  abbrev pub onward : Onward
  onward = onward_by (parts_of s i) t k

  abbrev whole : on_frames i (parts_of s i) k (store_of s) ≡ (said_on onward (parts_of s i), parts_on onward (parts_of s i), store_of s)
  whole = event_on_law (parts_of s i) t out i k (store_of s)

  pub out_answer : (step s (came i k)).0 ≡ said_on onward (parts_of s i)
  out_answer = framed_answer s w i k h speaks ∙ ap (λ (r : Response × Parts × Store). r.0) whole

  pub out_own : parts_of (step s (came i k)).1 i ≡ parts_on onward (parts_of s i)
  out_own = framed_own s w i k h speaks ∙ ap (λ (r : Response × Parts × Store). r.1) whole

  pub out_state : (parts_of (step s (came i k)).1 i).line.state ≡ state_on onward t
  out_state = ap (λ (p : Parts). p.line.state) out_own ∙ state_on_law onward t (parts_of s i) out

  pub out_store : store_of (step s (came i k)).1 ≡ store_of s
  out_store = framed_journal s w i k h speaks ∙ ap (λ (r : Response × Parts × Store). r.2) whole

  pub out_intact : Intact (step s (came i k)).1
  out_intact = shaped_intact s (step s (came i k)).1 w (event_shaped s w i k h) out_store

-- nothing goes out on a line of frames with any other answer than 9, in whatever state
silent : (a : Answer) (p : Parts) → p.line.settings.dialogue ≡ Frames → number_of a ≢ 9 → (told a p).buffer ≡ []
silent a p speaks n = ap (λ (r : Response). r.buffer) (told_frames p a speaks) ∙ rw (ne_eqb (number_of a) 9 n)

pub only_9_sends : (s : State) (i : ℕ) (k : Coming) → dialogue_at s.gateway i ≡ Frames → answered (step s (event i k)).0 ≢ 9 → (step s (event i k)).0.buffer ≡ []
only_9_sends s i (happens k) speaks n = silent (step s (came i k)).0.answer (parts_of (step s (came i k)).1 i) (still_frames s (came i k) i speaks) n
only_9_sends s i (starts text) speaks n = silent (step s (starting i text)).0.answer (parts_of (step s (starting i text)).1 i) (still_frames s (starting i text) i speaks) n

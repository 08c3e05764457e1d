-- The frames of a message, sent on a line that waits: every frame but the last is joined (2), and the last one stores the message (4).
-- Assumes nothing.
use mathlib.Core.Path.{◌≡◌, refl, sym, ap, ◌∙◌}
use mathlib.Core.Logic.{◌≢◌}
use mathlib.Core.Bool.{true, false}
use mathlib.Core.List.{List, [], ◌∷◌, ◌++◌, map, append_assoc}
use Prim.Native.Nat.{ℕ, ◌+◌, ◌≤◌}
use native.Mathlib.Omega.{arith}
use borrow.Author.Tests.{ne_eqb}
use lib.ListN.{length, take, length-append}
use Rattle.memory.specs.Sizes.{frame_part, message_limit}
use Rattle.memory.specs.Parts.{part, splice}
use Rattle.memory.specs.Tests.{all}
use Rattle.memory.proofs.Parts.{part_start, take_through, length_splice}
use Rattle.memory.proofs.Tests.{and_left, and_right, all_append}
use Rattle.characters.specs.Control.{stx, lf}
use Rattle.characters.specs.Allowed.{allowed}
use Rattle.digits.specs.Number.{most_number, next_number}
use Rattle.frame.specs.Shape.{around_text}
use Rattle.framing.specs.Writing.{frame_of}
use Rattle.frame.specs.declared.End.{End}
use Rattle.framing.proofs.ReadBack.{early, long}
use Rattle.faults.specs.Message.{is_message}
use Rattle.faults.proofs.Messages.{message_short, message_allowed}
use Rattle.settings.specs.Settings.{standard_settings}
use Rattle.strips.specs.Readers.{Memo}
use Rattle.line.specs.Line.{accepted_line}
use Rattle.line.specs.Turn.{is_last}
use Rattle.line.specs.declared.Line.{Line}
use Rattle.line.specs.declared.State.TheVariants.{Waiting}
use Rattle.answers.specs.declared.Answer.TheVariants.{Accepted}
use Rattle.journal_laws.specs.Runs.{State as Store}
use Rattle.looking.specs.Looks.{end_look}
use Rattle.looking.specs.declared.Look.TheVariants.{Done}
use Rattle.looking.specs.Verdicts.{Accepts}
use Rattle.promises.specs.Machine.{response}
use Rattle.promises.specs.Sending.{Usable}
use Rattle.promises.proofs.Feeding.{feed, ended, unanswered, ready, own_text, last, sent}

-- the line speaks frames and waits for one with this number, with nothing joined
pub record Open (number : ℕ) (l : Line) : Type 0 where
  pub waits : l ≡ record { state = Waiting; collected = 0; joined = l.joined; seconds = l.seconds; next = l.next; last = l.last; refusing = l.refusing; settings = l.settings }
  pub speaks : l.settings ≡ standard_settings
  pub joined : l.joined ≡ 0
  pub refusing : l.refusing ≡ false
  pub new : is_last l.last number ≡ false
  pub next : number ≡ l.next
  pub low : number ≤ most_number

-- a number is not the next one's
pub not_next : (number : ℕ) → number ≤ most_number → number ≢ next_number number
unfolding next_number
not_next number h = λ e. absurd (omega (arith, e))

next_low : (number : ℕ) → next_number number ≤ most_number
unfolding next_number
next_low number = omega arith

-- behind a stored message the line is open again
pub accepted_open : (l : Line) (number : ℕ) → l.settings ≡ standard_settings → l.refusing ≡ false → number ≡ l.next → number ≤ most_number → Open (next_number number) (accepted_line l 0)
accepted_open l number speaks kind next low = record {
  waits = refl;
  speaks = speaks;
  joined = refl;
  refusing = kind;
  new = rw (← next) (ne_eqb number (next_number number) (not_next number low));
  next = ap next_number next;
  low = next_low number;
}

-- x of a message has been joined on the line, y is to come, and this number is next
pub record Going (x y : List ℕ) (number : ℕ) (l : Line) (texts frames : List ℕ) : Type 0 where
  pub speaks : l.settings ≡ standard_settings
  pub message : is_message (x ++ y) ≡ true
  pub refusing : l.refusing ≡ false
  pub new : is_last l.last number ≡ false
  pub next : number ≡ l.next
  pub low : number ≤ most_number
  pub joined : l.joined ≡ length x
  pub texts_long : length texts ≡ message_limit
  pub frames_long : length frames ≡ frame_part
  pub held : part texts 0 (length x) ≡ x

-- one frame of it, with the first n bytes of what is to come
module _ (limit : ℕ) (usable : Usable limit) (i : ℕ) (j : Store) (memo : Memo) (x t y : List ℕ) (number : ℕ) (end : End) (l : Line) (texts frames : List ℕ) (g : Going x (t ++ y) number l texts frames)
    (room : length t + around_text ≤ limit) where
  pub clean : all allowed t ≡ true
  clean =
      let whole = message_allowed _ (x ++ (t ++ y)) g.message in
      and_left (all allowed t) (all allowed y)
      (sym (all_append allowed t y) ∙ and_right (all allowed x) (all allowed (t ++ y)) (sym (all_append allowed x (t ++ y)) ∙ whole))

  most : length x + length t ≤ message_limit
  most = omega (arith, message_short _ (x ++ (t ++ y)) g.message, length-append x (t ++ y), length-append t y)

  most_joined : l.joined + length t ≤ message_limit
  most_joined = rw g.joined most

  pub one_sent : feed i (ready i j memo l texts frames) j (frame_of number end t)
      ≡ ended (map unanswered (stx ∷ early number end t)) (last i j memo l texts limit usable number end t frames room g.low clean g.frames_long (end_look end (length t) (x ++ t)))
  one_sent =
      sent i j memo l texts limit usable number end t frames room g.low clean g.frames_long g.refusing g.new g.next most_joined
      ∙ ap (λ (u : List ℕ). ended (map unanswered (stx ∷ early number end t)) (last i j memo l texts limit usable number end t frames room g.low clean g.frames_long (end_look end (length t) (u ++ t))))
      (ap (part texts 0) g.joined ∙ g.held)

  -- a frame that is joined: what is left is a line that waits for the next one
  abbrev pub line_then : Line
  line_then = accepted_line l (l.joined + length t)

  abbrev pub texts_then : List ℕ
  texts_then = splice texts l.joined t

  abbrev pub frames_then : List ℕ
  frames_then = splice (splice frames 0 (early number end t)) (length (early number end t)) (lf ∷ [])

  pub accepted : last i j memo l texts limit usable number end t frames room g.low clean g.frames_long (Done (Accepts (length t))) ≡ (response Accepted [], ready i j memo line_then texts_then frames_then, j)
  accepted =
      ap (λ (u : List ℕ). (response Accepted [], ready i j memo line_then (splice texts l.joined u) frames_then, j))
      (own_text i j memo l texts limit usable number end t frames room g.low clean g.frames_long)

  two_long : length frames_then ≡ frame_part
  two_long =
      let once = length_splice frames 0 (early number end t) (omega (arith, usable, long number end t, g.frames_long)) in
      length_splice (splice frames 0 (early number end t)) (length (early number end t)) (lf ∷ []) (omega (arith, usable, once, long number end t, g.frames_long)) ∙ once ∙ g.frames_long

  pub going_on : Going (x ++ t) y (next_number number) line_then texts_then frames_then
  going_on =
      record {
        speaks = g.speaks;
        message = rw (append_assoc x t y) g.message;
        refusing = g.refusing;
        new = rw (← g.next) (ne_eqb number (next_number number) (not_next number g.low));
        next = ap next_number g.next;
        low = next_low number;
        joined = rw (g.joined, length-append x t);
        texts_long = length_splice texts l.joined t (omega (arith, most_joined, g.texts_long)) ∙ g.texts_long;
        frames_long = two_long;
        held =
            part_start texts_then (length (x ++ t)) ∙ ap (λ (k : ℕ). take k texts_then) (length-append x t)
            ∙ ap (λ (k : ℕ). take (length x + length t) (splice texts k t)) g.joined
            ∙ take_through texts (length x) t (omega (arith, most, g.texts_long))
            ∙ ap (λ (u : List ℕ). u ++ t) (sym (part_start texts (length x)) ∙ g.held);
      }

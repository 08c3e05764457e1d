-- No event of a host is answered 54, in whatever state: a text that it completes ends with CR.
-- Assumes nothing.
use Rattle.std.specs.Prelude.{Result, Ok, Err}
use Rattle.journal.specs.declared.Refusal.{Refusal}
use mathlib.Core.Path.{◌≡◌, refl, ap}
use mathlib.Core.Logic.{◌≢◌}
use mathlib.Core.Bool.{Bool, true, false, not}
use borrow.Author.Tests.{eqb-false}
use lib.Dec.{eqb, ltb}
use Rattle.memory.specs.Sizes.{lines}
use Rattle.memory.specs.Tests.{unless}
use Rattle.room.specs.Room.{todays_shares}
use Rattle.answers.specs.InNumbers.{in_numbers}
use Rattle.answers.specs.Paper.{number_of}
use Rattle.answers.specs.declared.Answer.{Answer}
use Rattle.answers.specs.declared.Answer.TheVariants.{NoLine, WrongSize, BeyondLimits}
use Rattle.answers.proofs.Paper.{every_but}
use Rattle.settings.specs.declared.Patient.{Patient}
use Rattle.journal.specs.declared.Ledger.{Ledger}
use Rattle.line.specs.Line.{block_within}
use Rattle.line.specs.declared.Line.{Line}
use Rattle.looking.specs.Lent.{right_sizes}
use Rattle.looking.specs.Views.{frames_of}
use Rattle.receiving.specs.Steps.{Memory, step_of}
use Rattle.strips.specs.Readers.{Memo}
use Rattle.strips.specs.declared.Reader.{Reader}
use Rattle.uploads.specs.Uploads.{leave, Ruling, ruling, filing, ruling_of, ruling_on, upload_of}
use Rattle.gateway_laws.specs.Classes.{Class, quiet, opening, closing, refusing, accepting, storing, against, taking as gives, sending, hearing, class_of}
use Rattle.gateway_laws.proofs.Rulings.{every_ruling}
use Rattle.looking.specs.declared.Event.{Event}
use Rattle.gateway_laws.proofs.Ended.{verdict_ended}
use Prim.Native.Nat.{ℕ}
use Rattle.looking.specs.declared.Kind.{Kind}
use Rattle.promises.specs.Machine.{came, on_line}
use Rattle.ledger.specs.Ledgers.{ledger_of}
use Rattle.numbers.specs.Plain.{line_of}
use Rattle.keeping.specs.Keeping.{memo_of}
use Rattle.calls.specs.Calls.{HostState, call_of}
use Rattle.ngachodui_laws.specs.HostRuns.{number_to}
use Rattle.ngachodui_laws.proofs.Refusals.{by_tests}

-- on a reader's line no answer has that number
abbrev is_hearing : Class → Bool
is_hearing quiet = false
is_hearing opening = false
is_hearing closing = false
is_hearing refusing = false
is_hearing accepting = false
is_hearing storing = false
is_hearing against = false
is_hearing gives = false
is_hearing sending = false
is_hearing hearing = true

heard_ended : (a : Answer) → class_of a ≡ hearing → eqb (number_of a) 54 ≡ false
heard_ended a h = every_but (λ b. not (is_hearing (class_of b))) (λ b. eqb (number_of b) 54) (λ vs. refl) a (ap (λ (c : Class). not (is_hearing c)) h)

filing_ended : (q : Result (Unit {0}) Refusal) (r : Reader) → eqb (number_of (filing q r).answer) 54 ≡ false
filing_ended (Ok tt) r = refl
filing_ended (Err Refusal.NoRoom) r = refl
filing_ended (Err Refusal.Broken) r = refl
filing_ended (Err Refusal.NoLine) r = refl
filing_ended (Err Refusal.WrongSize) r = refl
filing_ended (Err Refusal.Malformed) r = refl

ruling_ended : (p : Patient) (l : Line) (w : Memo) (d : Ledger) (e : Event) (m : Memory) → eqb (number_of (ruling_on todays_shares p l w d e m).answer) 54 ≡ false
unfolding ruling_on
ruling_ended p l w d e m = by (ltb e.line lines) (right_sizes m.journal m.unfinished m.frames) (block_within p l)
  where
    work : Ruling
    work = ruling_of todays_shares p l w d e.line e.kind m.journal (frames_of e.line m.frames)

    by : (x y z : Bool) → eqb (number_of (unless x (ruling leave NoLine) (unless y (ruling leave WrongSize) (unless z (ruling leave BeyondLimits) work))).answer) 54 ≡ false
    by false y z = refl
    by true false z = refl
    by true true false = refl
    by true true true = every_ruling todays_shares p l w d e.line e.kind m.journal (frames_of e.line m.frames) (λ x. eqb (number_of x.answer) 54 ≡ false)
        (record { ignored = refl; added = λ n. refl; heard = λ r a h. heard_ended a h; filed = λ q. filing_ended q w.reader })

call_ended : (s : HostState) (e : Event) → eqb (call_of s e).answered.number 54 ≡ false
unfolding in_numbers step_of upload_of
call_ended s e =
    by_tests s e (λ c. eqb c.answered.number 54 ≡ false) refl refl refl
    (λ h w f. verdict_ended todays_shares (line_of s.numbers e.line) (ledger_of s.numbers s.counts) e s.memory.journal s.memory.unfinished s.memory.frames)
    (λ h w p f. ruling_ended p (line_of s.numbers e.line) (memo_of s.numbers e.line) (ledger_of s.numbers s.counts) e s.memory)

pub never_54 : (s : HostState) (i : ℕ) (k : Kind) → number_to s (came i k) ≢ 54
never_54 s i k = eqb-false _ _ (call_ended s (on_line i k))

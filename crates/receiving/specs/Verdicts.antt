-- The verdict on an event: 40, 41, 42, then the work; a complete text is decided by the records and the journal: 30 or a fault, 43, 31, 4.
-- Assumes nothing.
use Rattle.std.specs.Prelude.{ℕ, List, ltb}
use Rattle.memory.specs.Sizes.{lines}
use Rattle.memory.specs.Tests.{unless}
use Rattle.journal.specs.declared.Ledger.{Ledger}
use Rattle.deciding.specs.Decisions.{outcome_of}
use Rattle.deciding.specs.declared.Fate.{Fate}
use Rattle.deciding.specs.declared.Outcome.{Outcome}
use Rattle.line.specs.Line.{within_limits}
use Rattle.line.specs.declared.Line.{Line}
use Rattle.answers.specs.declared.Answer.TheVariants.{NoLine, WrongSize, BeyondLimits}
use Rattle.looking.specs.Views.{frames_of, texts_of, joined_text}
use Rattle.looking.specs.Looks.{look_of}
use Rattle.looking.specs.Lent.{right_sizes}
use Rattle.looking.specs.declared.Event.{Event}
use Rattle.looking.specs.declared.Kind.{Kind}
use Rattle.looking.specs.declared.Look.{Look}
use Rattle.looking.specs.declared.Look.TheVariants.{Done, Decides}
use Rattle.looking.specs.declared.Act.{Act}
use Rattle.looking.specs.declared.Act.TheVariants.{Leave, Store, Object}
use Rattle.looking.specs.declared.Verdict.{Verdict}
use Rattle.looking.specs.Verdicts.{verdict, Left}

-- what is done with a line by the fate of its text, which ends with n bytes of its frame, and the verdict that the outcome of deciding is
abbrev pub fate_act : Fate → ℕ → Act
fate_act Fate.Store n = Store n
fate_act Fate.Object n = Object n
fate_act Fate.Leave n = Leave

abbrev pub outcome_verdict : Outcome → ℕ → Verdict
outcome_verdict o n = verdict (fate_act o.fate n) o.answer

-- a complete text is decided: the records, then the journal
abbrev pub decision_of : List ℕ → Ledger → ℕ → ℕ → List ℕ → List ℕ → Verdict
decision_of shares d i n text journal = outcome_verdict (outcome_of shares d i text journal) n

abbrev pub decided : Look → List ℕ → Line → Ledger → ℕ → List ℕ → List ℕ → List ℕ → Verdict
decided (Done v) shares l d i journal texts frames = v
decided (Decides n) shares l d i journal texts frames = decision_of shares d i n (joined_text l n texts frames) journal

-- the work on the line's own parts: the look, and the decision where the look comes to one
unfoldable pub own_work : List ℕ → Line → Ledger → ℕ → Kind → List ℕ → List ℕ → List ℕ → Verdict
own_work shares l d i k journal texts frames = decided (look_of l k texts frames) shares l d i journal texts frames

abbrev pub work_of : List ℕ → Line → Ledger → Event → List ℕ → List ℕ → List ℕ → Verdict
work_of shares l d e journal unfinished frames =
    own_work shares l d e.line e.kind journal (texts_of e.line unfinished) (frames_of e.line frames)

-- 40, 41, 42, then the work [O3]
unfoldable pub verdict_of : List ℕ → Line → Ledger → Event → List ℕ → List ℕ → List ℕ → Verdict
verdict_of shares l d e journal unfinished frames =
    unless (ltb e.line lines) (Left NoLine)
    (unless (right_sizes journal unfinished frames) (Left WrongSize)
    (unless (within_limits l) (Left BeyondLimits)
    (work_of shares l d e journal unfinished frames)))

-- The deciding of a complete text, with what its line is left with.
-- Assumes nothing.
use Rattle.std.specs.Prelude.{ℕ, ◌&&◌, List, ltb}
use Rattle.memory.specs.Sizes.{lines}
use Rattle.memory.specs.Tests.{unless}
use Rattle.room.specs.Room.{todays_shares}
use Rattle.journal.specs.declared.Ledger.{Ledger}
use Rattle.line.specs.Line.{within_limits}
use Rattle.line.specs.declared.Line.{Line}
use Rattle.answers.specs.declared.Answer.TheVariants.{NoLine, WrongSize, BeyondLimits}
use Rattle.looking.specs.Views.{frames_of, texts_of, joined_text}
use Rattle.looking.specs.Fitting.{text_fits}
use Rattle.looking.specs.Lent.{right_sizes}
use Rattle.looking.specs.Verdicts.{Left}
use Rattle.looking.specs.declared.Event.{Event}
use Rattle.looking.specs.declared.Verdict.{Verdict}
use Rattle.receiving.specs.Verdicts.{decision_of}
use Rattle.receiving.specs.Steps.{Memory, AfterStep, settle, Leaves}
use Rattle.receiving.specs.declared.Stepped.{Stepped}

-- the decision on the text that the line has with n bytes of its frame
abbrev pub completed : List ℕ → Line → Ledger → Event → ℕ → Memory → Verdict
completed shares l d e n m = decision_of shares d e.line n (joined_text l n (texts_of e.line m.unfinished) (frames_of e.line m.frames)) m.journal

-- 40, 41, 42, then the decision; more bytes than the line has or has room for are beyond its limits
unfoldable pub completion_of : List ℕ → Line → Ledger → Event → ℕ → Memory → Verdict
completion_of shares l d e n m =
    unless (ltb e.line lines) (Left NoLine)
    (unless (right_sizes m.journal m.unfinished m.frames) (Left WrongSize)
    (unless (within_limits l && text_fits l n) (Left BeyondLimits)
    (completed shares l d e n m)))

-- what deciding leaves
unfoldable pub decide_of : List ℕ → Line → Ledger → Event → ℕ → Memory → AfterStep
decide_of shares l d e n m = settle (completion_of shares l d e n m) l d e m

-- what deciding says
abbrev pub Deciding : Line → Ledger → Event → ℕ → Memory → Stepped → Memory → Type 0
Deciding l d e n m r m' = Leaves (decide_of todays_shares l d e n m) r m'

-- The line of a text that was decided: the row of the text's fate.
-- Assumes nothing.
use Rattle.answers.specs.declared.Answer.{Answer}
use Rattle.std.specs.Prelude.{ℕ, ◌≡◌, ◌&&◌, ltb, length, Err, Ok, Result}
use Rattle.memory.specs.Sizes.{lines, journal_size}
use Rattle.memory.specs.Tests.{unless}
use Rattle.line.specs.Line.{within_limits}
use Rattle.line.specs.declared.Line.{Line}
use Rattle.answers.specs.declared.Answer.TheVariants.{NoLine, WrongSize, BeyondLimits}
use Rattle.looking.specs.Fitting.{text_fits}
use Rattle.looking.specs.Lent.{right_lengths}
use Rattle.looking.specs.declared.Act.{Act}
use Rattle.looking.specs.declared.Act.TheVariants.{Leave}
use Rattle.looking.specs.declared.Event.{Event}
use Rattle.deciding.specs.declared.Fate.{Fate}
use Rattle.receiving.specs.Verdicts.{fate_act}
use Rattle.receiving.specs.Settled.{line_after, frames_after, texts_after}
use Rattle.receiving.specs.Alone.{AloneMemory}

-- 40, 41 and 42 of an event that is to complete a text with n bytes of its frame, by the lengths of what is lent: more bytes than the line has, or has room for, are beyond its limits
unfoldable pub test_of : Line → ℕ → ℕ → ℕ → ℕ → ℕ → Result (Unit {0}) Answer
test_of l i n journal unfinished frames =
    unless (ltb i lines) (Err NoLine)
    (unless (right_lengths journal unfinished frames) (Err WrongSize)
    (unless (within_limits l && text_fits l n) (Err BeyondLimits)
    (Ok tt)))

-- the row of the text's fate; where one of the three is answered, everything is left as it was
abbrev pub closing_act : Result (Unit {0}) Answer → Fate → ℕ → Act
closing_act (Ok tt) fate n = fate_act fate n
closing_act (Err a) fate n = Leave

pub record ClosedBy (a : Act) (l : Line) (e : Event) (m : AloneMemory) (r : Line) (m' : AloneMemory) : Type 0 where
  pub line : r ≡ line_after a l
  pub unfinished : m'.unfinished ≡ texts_after a l e.line m.unfinished m.frames
  pub frames : m'.frames ≡ frames_after a e.kind l e.line m.frames

-- what closing says; the journal is not lent, so its size is not asked
abbrev pub Closing : Line → Event → ℕ → Fate → AloneMemory → Line → AloneMemory → Type 0
Closing l e n fate m r m' = ClosedBy (closing_act (test_of l e.line n journal_size (length m.unfinished) (length m.frames)) fate n) l e m r m'

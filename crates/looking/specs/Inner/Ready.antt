-- What looking and acting rely on: a record within its limits, and memory of the right sizes.
-- Assumes nothing.
use Rattle.std.specs.Prelude.{ℕ, ◌<◌, ◌≡◌, true, List, length}
use Rattle.memory.specs.Sizes.{lines, frame_part, message_limit, frames_size, unfinished_size}
use Rattle.line.specs.Line.{within_limits}
use Rattle.line.specs.declared.Line.{Line}

-- a record within its limits, and parts of a line's sizes
pub record Own (l : Line) (texts frames : List ℕ) : Type 0 where
  pub within : within_limits l ≡ true
  pub texts_long : length texts ≡ message_limit
  pub frames_long : length frames ≡ frame_part

-- what 40, 41 and 42 have left: a line, its record within its limits, and memory of the right sizes
pub record Ready (l : Line) (i : ℕ) (unfinished frames : List ℕ) : Type 0 where
  pub line : i < lines
  pub within : within_limits l ≡ true
  pub texts : length unfinished ≡ unfinished_size
  pub bytes : length frames ≡ frames_size

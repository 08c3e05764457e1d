-- What the end of a transfer leaves of a line.
-- Assumes nothing.
use mathlib.Core.Path.{◌≡◌, refl}
use Rattle.line.specs.Line.{started_line, closed_line}
use Rattle.line.specs.declared.Line.{Line}

-- a line whose transfer is over is as started
pub closed_started : (l : Line) → closed_line l ≡ started_line l.settings
closed_started l = refl

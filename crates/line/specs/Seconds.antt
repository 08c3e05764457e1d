-- Seconds on an open line.
-- Assumes nothing.
use Rattle.std.specs.Prelude.{ℕ, ◌+◌, cond, leb, None, Option, Some}
use Rattle.line.specs.Line.{most_seconds}
use Rattle.line.specs.declared.Line.{Line}

-- they add up, and at 30 or more the time has run out [E8, E9]
unfoldable pub passed_of : Line → ℕ → Option ℕ
passed_of l s = cond (leb (l.seconds + s) most_seconds) (Some (l.seconds + s)) None

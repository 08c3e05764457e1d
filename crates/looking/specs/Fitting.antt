-- Whether a frame's text fits its line.
-- Assumes nothing.
use Rattle.std.specs.Prelude.{ℕ, ◌+◌, Bool, ◌&&◌, leb}
use Rattle.memory.specs.Sizes.{message_limit}
use Rattle.frame.specs.Shape.{around_collected}
use Rattle.line.specs.declared.Line.{Line}

-- the n bytes of a frame's text lie in what is collected of it, and fit behind the joined text
abbrev pub text_fits : Line → ℕ → Bool
text_fits l n = leb (n + around_collected) l.collected && leb (l.joined + n) message_limit

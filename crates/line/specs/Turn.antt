-- How a frame that is whole stands to its line: 26, then 3, 27, 28.
-- Assumes nothing.
use Rattle.std.specs.Prelude.{ℕ, ◌+◌, Bool, false, cond, leb, eqb, None, Option, Some}
use Rattle.memory.specs.Sizes.{message_limit}
use Rattle.memory.specs.Tests.{unless}
use Rattle.line.specs.declared.Line.{Line}
use Rattle.line.specs.declared.Turn.{Turn}
use Rattle.line.specs.declared.Turn.TheVariants.{Refused, Again, Missed, Overlong, InTurn}

-- only the number tells a repeat; where no frame was accepted yet, none is one [A3]
abbrev pub is_last : Option ℕ → ℕ → Bool
is_last None n = false
is_last (Some m) n = eqb m n

-- the first that applies: refusing, a repeat, not the next, too long; else it is in turn [F10, A3, A26, A27, A28, O4]
unfoldable pub turn_of : Line → ℕ → ℕ → Turn
turn_of l number length =
    cond l.refusing Refused
    (cond (is_last l.last number) Again
    (unless (eqb number l.next) Missed (unless (leb (l.joined + length) message_limit) Overlong InTurn)))

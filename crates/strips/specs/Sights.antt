-- What a byte does on a strip reader's line, by its record.
-- Assumes nothing.
use Rattle.std.specs.Prelude.{ℕ, ◌+◌, Bool, true, false, cond, ◌||◌, eqb}
use Rattle.memory.specs.Tests.{is, unless}
use Rattle.characters.specs.Control.{stx, cr}
use Rattle.settings.specs.Settings.{results_length}
use Rattle.settings.specs.declared.Patient.{Patient}
use Rattle.line.specs.declared.Line.{Line}
use Rattle.line.specs.declared.State.{State}
use Rattle.line.specs.declared.State.TheVariants.{Neutral, Waiting, Inside, Out}
use Rattle.strips.specs.declared.Sight.{Sight}
use Rattle.strips.specs.declared.Sight.TheVariants.{Ignores, Adds, Judges}

-- inside a block; any other state is read as neutral [B6]
abbrev pub is_inside : State → Bool
is_inside Neutral = false
is_inside Waiting = false
is_inside Inside = true
is_inside (Out s) = false

-- a block ends at its first CR, or at the last byte of the longest that the line has [B6]
abbrev pub ends_block : Patient → Line → ℕ → Bool
ends_block p l b = is cr b || eqb (l.collected + 1) (results_length p)

-- between blocks all but STX is ignored; STX and what follows it is added until the block ends [B6]
unfoldable pub sight_of : Patient → Line → ℕ → Sight
sight_of p l b = unless (is_inside l.state || is stx b) Ignores (cond (ends_block p l b) Judges Adds)

-- What a host lends to an event: what it keeps there, and that a call leaves each reference where it was.
-- Assumes nothing.
use Rattle.std.specs.Prelude.{Bool, ◌≡◌, length}
use Rattle.looking.specs.Lent.{right_lengths}
use Rattle.calls.specs.declared.Lent.{Lent}
use Rattle.calls.specs.Calls.{HostState}

abbrev pub kept : Lent → HostState
kept l = record { numbers = l.numbers.now; counts = l.counts.now; memory = record { journal = l.journal.now; unfinished = l.unfinished.now; frames = l.frames.now } }

-- whether the memory has the right sizes [A41]
abbrev pub right : Lent → Bool
right l = right_lengths (length l.journal.now) (length l.unfinished.now) (length l.frames.now)

-- each field still holds the reference that it held
pub record SameReferences (l l' : Lent) : Type 0 where
  pub numbers : l'.numbers.ghost_name ≡ l.numbers.ghost_name
  pub counts : l'.counts.ghost_name ≡ l.counts.ghost_name
  pub journal : l'.journal.ghost_name ≡ l.journal.ghost_name
  pub unfinished : l'.unfinished.ghost_name ≡ l.unfinished.ghost_name
  pub frames : l'.frames.ghost_name ≡ l.frames.ghost_name

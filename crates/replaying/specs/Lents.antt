-- What a replay lends to the gateway, as the desk that it is.
-- Assumes nothing.
use Rattle.std.specs.Prelude.{◌≡◌, length}
use Rattle.replaying.specs.Desk.{Desk, desk_of}
use Rattle.replaying.specs.declared.Lent.{Lent}

abbrev pub desk : Lent → Desk
desk l = desk_of l.numbers.now l.counts.now l.journal.now l.unfinished.now l.frames.now l.buffer.now

-- each field still holds the reference that it held
pub record SameReferences (l l' : Lent) : Type 0 where
  pub numbers : l'.numbers.ghost_name ≡ l.numbers.ghost_name
  pub counts : l'.counts.ghost_name ≡ l.counts.ghost_name
  pub journal : l'.journal.ghost_name ≡ l.journal.ghost_name
  pub unfinished : l'.unfinished.ghost_name ≡ l.unfinished.ghost_name
  pub frames : l'.frames.ghost_name ≡ l.frames.ghost_name
  pub buffer : l'.buffer.ghost_name ≡ l.buffer.ghost_name

-- each memory still has its length; the numbers and the counts have theirs by type
pub record SameLengths (l l' : Lent) : Type 0 where
  pub journal : length l'.journal.now ≡ length l.journal.now
  pub unfinished : length l'.unfinished.now ≡ length l.unfinished.now
  pub frames : length l'.frames.now ≡ length l.frames.now
  pub buffer : length l'.buffer.now ≡ length l.buffer.now

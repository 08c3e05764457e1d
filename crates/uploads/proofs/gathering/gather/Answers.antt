-- `uploads::gathering::gather` meets its contract.
-- Assumes nothing.
use lib.ListN.{length-set}
use Rattle.uploads.proofs.Scratches.{still_long, gathered}
use Rattle.uploads.proofs.gathering.gather.Goals as goal

pub returns : goal.returns
returns c =
    let a = c.args in
    let (long, room) = c.requires in (
      simp length-set (still_long a.place.now a.frames.now a.i a.line.collected a.byte long room.few room.there room.size c.copy.ensures),
      gathered a.place.now a.frames.now a.i a.line.collected a.byte long room.few room.there room.size c.copy.ensures,
    )

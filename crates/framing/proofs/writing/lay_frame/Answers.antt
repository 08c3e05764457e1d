-- `framing::writing::lay_frame` meets its contract: the tail behind the body makes the frame.
-- Assumes nothing.
use Rattle.std.proofs.Common.{◌∙◌}
use Rattle.framing.specs.Writing.{tail_of}
use Rattle.framing.proofs.Put.{frame_put}
use Rattle.framing.proofs.writing.lay_frame.Goals as goal

pub returns : goal.returns
unfolding tail_of
returns c =
    let a = c.args in
    let body = c.lay_body-check.ensures in
    c.lay_tail.ensures
    ∙ rw (body.0, body.1) (frame_put a.out.now a.number a.end a.text.now c.requires.1)

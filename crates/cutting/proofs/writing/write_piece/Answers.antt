-- `cutting::writing::write_piece` meets its contract: the part that was lent for the frame is back in its place.
-- Assumes nothing.
use mathlib.Core.Path.{◌≡◌, refl, sym, ap, ◌∙◌}
use native.Mathlib.Omega.{arith}
use Rattle.std.specs.Prelude.{◌-◌}
use lib.ListN.{length, take, drop, length-take, length-drop}
use lib.Seq.{length-take-le}
use Rattle.memory.specs.Parts.{splice}
use Rattle.framing.specs.Writing.{frame_of}
use Rattle.frame.specs.declared.End.{End}
use Rattle.cutting.proofs.Written.{frame_back, frame_fits}
use Rattle.cutting.proofs.writing.write_piece.Goals as goal

pub slice_bounds-put_frame-end : goal.slice_bounds-put_frame-end
slice_bounds-put_frame-end c = sym (length-take-le c.args.n c.args.text.now c.requires.1)

pub unwrap-requires : goal.unwrap-requires
unwrap-requires c =
    let a = c.args in
    let long : length (take a.n a.text.now) ≡ a.n = length-take-le a.n a.text.now c.requires.1 in
    frame_fits a.number c.end_after-end.result (take a.n a.text.now) _ _ c.requires.2 (omega (arith, c.requires.3, long, length-take (length a.out.now - a.done) (drop a.done a.out.now), length-drop a.done a.out.now)) c.put_frame.ensures

pub returns : goal.returns
returns c =
    let a = c.args in
    let text = take a.n a.text.now in
    let long : length text ≡ a.n = length-take-le a.n a.text.now c.requires.1 in
    frame_back a.number c.end_after-end.result text a.out.now _ _ a.done _ c.requires.2 (omega (arith, c.requires.3)) refl c.put_frame.ensures
    ∙ ap (λ (end : End). splice a.out.now a.done (frame_of a.number end text)) c.end_after-end.ensures

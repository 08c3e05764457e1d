-- `framing::writing::lay_body` meets its contract.
-- Assumes nothing.
use Rattle.std.proofs.Common.{◌≡◌, ◌+◌, ◌≤◌, length, arith, length-set}
use Rattle.framing.specs.Writing.{body_of}
use Rattle.framing.proofs.Put.{long_body, put_body, check_body}
use Rattle.framing.proofs.writing.lay_body.Goals as goal

pub bounds-out-1 : goal.bounds-out-1
bounds-out-1 c = simp length-set (omega arith)

pub lay_text-counted-requires : goal.lay_text-counted-requires
lay_text-counted-requires c = simp length-set (omega arith)

pub bounds-out-at : goal.bounds-out-at
bounds-out-at c =
    let room : length c.args.text.now + 3 ≤ length c.args.out.now = c.requires.1 in
    let same : length c.lay_text-counted.new.out ≡ length c.args.out.now = let a = c.args in
    long_body a.out.now a.text.now _ _ _ 0 room c.lay_text-counted.ensures.1 in
    omega (arith, same, room)

pub shape_of-out : goal.shape_of-out
shape_of-out c =
    let room : length c.args.text.now + 3 ≤ length c.args.out.now = c.requires.1 in
    let same : length c.lay_text-counted.new.out ≡ length c.args.out.now = let a = c.args in
    long_body a.out.now a.text.now _ _ _ 0 room c.lay_text-counted.ensures.1 in
    simp length-set same

pub returns : goal.returns
unfolding body_of
returns c =
    let room : length c.args.text.now + 3 ≤ length c.args.out.now = c.requires.1 in
    let a = c.args in
    let laid = c.lay_text-counted.ensures in (
      rw (← c.end_byte-last.ensures) (check_body _ _ a.text.now laid.0 c.wrapping_add_u8.ensures.value),
      rw (← c.end_byte-last.ensures) (put_body a.out.now a.text.now _ _ _ _ room laid.1),
    )

-- `cutting::cut` meets its contract: each answer under the tests that led to it.
-- Assumes nothing.
use Rattle.std.specs.Prelude.{Err}
use mathlib.Core.Path.{ap, ◌≡◌, sym, ◌∙◌}
use mathlib.Core.Bool.{true}
use native.Mathlib.Omega.{arith}
use lib.ListN.{length}
use Rattle.faults.specs.Message.{is_message}
use Rattle.faults.proofs.Messages.{message_short, message_ends}
use Rattle.cutting.specs.Frames.{is_cuttable, cut_of}
use Rattle.cutting.proofs.Written.{no_room_in_frames, no_message, no_room, cut_written, by_message}
use Rattle.cutting.proofs.Laws.{cut_long}
use Rattle.cutting.proofs.cut.Goals as goal

pub returns-then-limit-le-AROUND_TEXT : goal.returns-then-limit-le-AROUND_TEXT
returns-then-limit-le-AROUND_TEXT c =
    let a = c.args in
    no_room_in_frames a.limit a.text.now a.out.now c.if-limit-le-AROUND_TEXT.true

pub returns-then-not-is_message : goal.returns-then-not-is_message
returns-then-not-is_message c =
    let a = c.args in
    let no = sym c.is_message.ensures ∙ c.if-not-is_message.true in
    no_message a.limit a.text.now a.out.now (omega arith) no (ap Err c.refuse.ensures)

pub measure-n-requires : goal.measure-n-requires
measure-n-requires c =
    let a_message : is_message c.args.text.now ≡ true = sym c.is_message.ensures ∙ c.if-not-is_message.false in
    let text = c.args.text.now in
    (omega arith, message_short _ text a_message, message_ends _ text a_message)

pub returns-then-out-n : goal.returns-then-out-n
returns-then-out-n c =
    let measured : c.measure-n.result ≡ length (cut_of c.args.limit c.args.text.now) = c.measure-n.ensures ∙ sym (cut_long c.args.limit c.args.text.now (omega arith)) in
    let a_message : is_message c.args.text.now ≡ true = sym c.is_message.ensures ∙ c.if-not-is_message.false in
    let cuttable : (let a = c.args in is_cuttable a.limit a.text.now ≡ true) = let a = c.args in by_message a.limit a.text.now (omega arith) a_message in
    let a = c.args in
    let long = measured in
    no_room a.limit a.text.now a.out.now cuttable (omega arith)

pub write_all-requires : goal.write_all-requires
write_all-requires c =
    let measured : c.measure-n.result ≡ length (cut_of c.args.limit c.args.text.now) = c.measure-n.ensures ∙ sym (cut_long c.args.limit c.args.text.now (omega arith)) in
    let a_message : is_message c.args.text.now ≡ true = sym c.is_message.ensures ∙ c.if-not-is_message.false in
    let long = measured in
    (omega arith, omega arith, message_ends _ c.args.text.now a_message)

pub returns : goal.returns
returns c =
    let measured : c.measure-n.result ≡ length (cut_of c.args.limit c.args.text.now) = c.measure-n.ensures ∙ sym (cut_long c.args.limit c.args.text.now (omega arith)) in
    let a_message : is_message c.args.text.now ≡ true = sym c.is_message.ensures ∙ c.if-not-is_message.false in
    let cuttable : (let a = c.args in is_cuttable a.limit a.text.now ≡ true) = let a = c.args in by_message a.limit a.text.now (omega arith) a_message in
    let a = c.args in
    let long = measured in
    cut_written a.limit a.text.now a.out.now cuttable (omega arith) long c.write_all.ensures

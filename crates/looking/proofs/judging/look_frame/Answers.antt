-- `looking::judging::look_frame` meets its contract.
-- Assumes nothing.
use mathlib.Core.Path.{◌≡◌, sym, ap, ◌∙◌}
use mathlib.Core.List.{[], ◌∷◌, ◌++◌}
use native.Mathlib.Omega.{arith}
use Rattle.line.proofs.Limits.{within_facts}
use Rattle.memory.specs.Sizes.{frame_limit}
use Rattle.memory.proofs.Parts.{part_lent}
use Rattle.frame.specs.Shape.{shape_of}
use Rattle.frame.proofs.Passed.{accepted_size}
use Rattle.looking.specs.Views.{frame_start, frames_of, frame_bytes}
use Rattle.looking.specs.Looks.{frame_look}
use Rattle.looking.proofs.Views.{length_frame, own_parts, lent_collected}
use Rattle.looking.specs.Inner.Ready.{Ready}
use Rattle.line.specs.declared.Line.{Line}
use Rattle.frame.specs.declared.End.{End}
use Rattle.frame.specs.declared.Flaw.{Flaw}
use Rattle.std.specs.Prelude.{Result, Ok, Err, ℕ, List, ◌+◌, ◌-◌, take, drop}
use Rattle.looking.proofs.judging.look_frame.Goals as goal

-- the frame as it was read from the line's own part
shape_read : (line : Line) (i b : ℕ) (u f : List ℕ) → Ready line i u f → {r : Result (ℕ × End × ℕ) Flaw}
    → r ≡ shape_of frame_limit (take (frame_start i + line.collected - frame_start i) (drop (frame_start i) f) ++ (b ∷ []))
    → r ≡ shape_of frame_limit (frame_bytes line b (frames_of i f))
shape_read line i b u f ready e =
    e ∙ ap (λ (bs : List ℕ). shape_of frame_limit (bs ++ (b ∷ []))) (part_lent f (frame_start i) line.collected ∙ lent_collected line i u f ready)

pub slice_bounds-shape_of-end : goal.slice_bounds-shape_of-end
slice_bounds-shape_of-end c = omega (arith, within_facts c.args.line c.requires.within, c.requires)

pub look_turn-requires : goal.look_turn-requires
look_turn-requires c =
    let a = c.args in
    let is = sym (shape_read a.line a.i a.b a.unfinished.now a.frames.now c.requires c.shape_of.ensures) ∙ c.in-Ok.is in
    let size = accepted_size frame_limit (frame_bytes a.line a.b (frames_of a.i a.frames.now)) _ _ _ is in
    let long = length_frame a.line a.b _ _ (own_parts a.line a.i a.unfinished.now a.frames.now c.requires) in
    (c.requires, omega (arith, size, long))

pub returns-in-Ok : goal.returns-in-Ok
unfolding frame_look
returns-in-Ok c =
    let a = c.args in
    rw (sym (shape_read a.line a.i a.b a.unfinished.now a.frames.now c.requires c.shape_of.ensures) ∙ c.in-Ok.is) c.look_turn.ensures

pub returns-in-Err-Unended : goal.returns-in-Err-Unended
unfolding frame_look
returns-in-Err-Unended c =
    let a = c.args in
    rw (sym (shape_read a.line a.i a.b a.unfinished.now a.frames.now c.requires c.shape_of.ensures) ∙ c.in-Err-Unended.is, c.in-Err-Unended.field-0-is) c.done.ensures

pub returns-in-Err-Torn : goal.returns-in-Err-Torn
unfolding frame_look
returns-in-Err-Torn c =
    let a = c.args in
    rw (sym (shape_read a.line a.i a.b a.unfinished.now a.frames.now c.requires c.shape_of.ensures) ∙ c.in-Err-Torn.is, c.in-Err-Torn.field-0-is) c.done-in-Err-Torn.ensures

pub returns-in-Err-WrongCheck : goal.returns-in-Err-WrongCheck
unfolding frame_look
returns-in-Err-WrongCheck c =
    let a = c.args in
    rw (sym (shape_read a.line a.i a.b a.unfinished.now a.frames.now c.requires c.shape_of.ensures) ∙ c.in-Err-WrongCheck.is, c.in-Err-WrongCheck.field-0-is) c.done-in-Err-WrongCheck.ensures

pub returns-in-Err-BadText : goal.returns-in-Err-BadText
unfolding frame_look
returns-in-Err-BadText c =
    let a = c.args in
    rw (sym (shape_read a.line a.i a.b a.unfinished.now a.frames.now c.requires c.shape_of.ensures) ∙ c.in-Err-BadText.is, c.in-Err-BadText.field-0-is) c.done-in-Err-BadText.ensures

pub returns-in-Err-BadNumber : goal.returns-in-Err-BadNumber
unfolding frame_look
returns-in-Err-BadNumber c =
    let a = c.args in
    rw (sym (shape_read a.line a.i a.b a.unfinished.now a.frames.now c.requires c.shape_of.ensures) ∙ c.in-Err-BadNumber.is, c.in-Err-BadNumber.field-0-is) c.done-in-Err-BadNumber.ensures

-- The parts of a line in the lent memory, and the pieces that are lent of them.
-- Assumes nothing.
use mathlib.Core.Path.{◌≡◌, sym, ap, ◌∙◌}
use mathlib.Core.Bool.{true}
use mathlib.Core.List.{List}
use Prim.Native.Nat.{ℕ, ◌+◌, ◌≤◌}
use native.Mathlib.Nat.{add-zero}
use native.Mathlib.Omega.{arith}
use lib.ListN.{length, length-append}
use Rattle.memory.specs.Sizes.{frame_part, message_limit}
use Rattle.memory.specs.Parts.{part}
use Rattle.memory.proofs.Parts.{length_part, part_part}
use Rattle.line.specs.Line.{within_limits}
use Rattle.line.specs.declared.Line.{Line}
use Rattle.line.proofs.Limits.{within_facts}
use Rattle.looking.specs.Views.{frame_start, text_start, frames_of, texts_of, frame_bytes, unfinished_text, frame_text}
use Rattle.looking.specs.Inner.Ready.{Own, Ready}

-- a line that is ready has its own parts
pub own_parts : (l : Line) (i : ℕ) (u f : List ℕ) → Ready l i u f → Own l (texts_of i u) (frames_of i f)
own_parts l i u f r = record {
  within = r.within;
  texts_long = length_part u (text_start i) message_limit (omega (arith, r));
  frames_long = length_part f (frame_start i) frame_part (omega (arith, r));
}

pub length_frame : (l : Line) (b : ℕ) (texts frames : List ℕ) → Own l texts frames → length (frame_bytes l b frames) ≡ l.collected + 1
length_frame l b texts frames o = rw (length-append, length_part frames 0 l.collected (omega (arith, o, within_facts l o.within)))

-- the unfinished text, lent out of the whole memory, is the start of the line's own part
pub text_lent : (l : Line) (i : ℕ) (u : List ℕ) → within_limits l ≡ true → part u (text_start i) l.joined ≡ unfinished_text l (texts_of i u)
text_lent l i u w =
    sym (part_part u (text_start i) message_limit 0 l.joined (omega (arith, within_facts l w)) ∙ ap (λ (k : ℕ). part u k l.joined) (add-zero (text_start i)))

-- what is lent of the whole memory is a piece of the line's own part
module _ (l : Line) (i : ℕ) (u f : List ℕ) (r : Ready l i u f) where
  pub lent_collected : part f (frame_start i) l.collected ≡ part (frames_of i f) 0 l.collected
  lent_collected =
      sym (part_part f (frame_start i) frame_part 0 l.collected (omega (arith, within_facts l r.within)) ∙ ap (λ (k : ℕ). part f k l.collected) (add-zero (frame_start i)))

  pub lent_unfinished : part u (text_start i) l.joined ≡ unfinished_text l (texts_of i u)
  lent_unfinished = text_lent l i u r.within

  pub lent_text : (n : ℕ) → n + 5 ≤ l.collected → part f (frame_start i + 1) n ≡ frame_text n (frames_of i f)
  lent_text n h = sym (part_part f (frame_start i) frame_part 1 n (omega (arith, within_facts l r.within)))

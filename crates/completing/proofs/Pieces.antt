-- The two pieces of a line's text, as they are lent, are its joined text.
-- Assumes nothing.
use mathlib.Core.Path.{◌≡◌, ap, ◌∙◌}
use mathlib.Core.List.{List, ◌++◌}
use Prim.Native.Nat.{ℕ, ◌+◌, ◌-◌}
use lib.ListN.{take, drop}
use Rattle.memory.proofs.Parts.{part_lent}
use Rattle.line.specs.declared.Line.{Line}
use Rattle.looking.specs.Views.{frame_start, text_start, frames_of, texts_of, frame_text, unfinished_text, joined_text}
use Rattle.looking.specs.Inner.Ready.{Ready}
use Rattle.looking.specs.Inner.Fitting.{TextFits}
use Rattle.looking.proofs.Views.{lent_unfinished, lent_text}

module _ (l : Line) (i n : ℕ) (u f : List ℕ) (ready : Ready l i u f) (fits : TextFits l n) where
  abbrev old_lent : List ℕ
  old_lent = take (text_start i + l.joined - text_start i) (drop (text_start i) u)

  abbrev new_lent : List ℕ
  new_lent = take (frame_start i + 1 + n - (frame_start i + 1)) (drop (frame_start i + 1) f)

  old_is : old_lent ≡ unfinished_text l (texts_of i u)
  old_is = part_lent u (text_start i) l.joined ∙ lent_unfinished l i u f ready

  new_is : new_lent ≡ frame_text n (frames_of i f)
  new_is = part_lent f (frame_start i + 1) n ∙ lent_text l i u f ready n fits.0

  pub pieces_joined : old_lent ++ new_lent ≡ joined_text l n (texts_of i u) (frames_of i f)
  pieces_joined = ap (λ (x : List ℕ). x ++ new_lent) old_is ∙ ap (λ (x : List ℕ). unfinished_text l (texts_of i u) ++ x) new_is

-- A frame's text, written behind the line's joined one.
-- Assumes nothing.
use mathlib.Core.Path.{◌≡◌, ap, ◌∙◌}
use mathlib.Core.Bool.{Bool}
use mathlib.Core.List.{List, ◌++◌}
use Prim.Native.Nat.{ℕ, ◌+◌, ◌-◌, ◌≤◌}
use native.Mathlib.Omega.{arith}
use lib.ListN.{length, take, drop}
use Rattle.memory.specs.Parts.{splice}
use Rattle.memory.specs.Moves.{Copied}
use Rattle.memory.proofs.Parts.{part_lent, length_part}
use Rattle.memory.proofs.Moves.{lent_back, copied_fits}
use Rattle.line.specs.declared.Line.{Line}
use Rattle.line.proofs.Limits.{within_facts}
use Rattle.looking.specs.Views.{frame_start, text_start, frames_of, frame_text}
use Rattle.looking.specs.Inner.Ready.{Ready}
use Rattle.looking.specs.Inner.Fitting.{TextFits}
use Rattle.receiving.specs.Settled.{with_text}
use Rattle.looking.proofs.Views.{own_parts, lent_text}

module _ (l : Line) (i n : ℕ) (u f : List ℕ) (ready : Ready l i u f) (fits : TextFits l n) where
  pub length_text : length (frame_text n (frames_of i f)) ≡ n
  length_text = length_part (frames_of i f) 1 n (omega (arith, fits, own_parts l i u f ready, within_facts l ready.within))

  room : text_start i + l.joined + length (frame_text n (frames_of i f)) ≤ length u
  room = omega (arith, ready, fits, length_text)

  -- the part of the unfinished texts that was lent to the copier is back
  pub text_written : (at : ℕ) (m b : List ℕ) (r : Bool) → at ≡ text_start i + l.joined → m ≡ take (length u - at) (drop at u)
      → Copied m 0 (take (frame_start i + 1 + n - (frame_start i + 1)) (drop (frame_start i + 1) f)) r b
      → take at u ++ (b ++ drop (length u - at) (drop at u)) ≡ with_text l i n u f
  text_written at m b r p e c =
      let c₁ = rw (part_lent f (frame_start i + 1) n, lent_text l i u f ready n fits.0) at c in
      let here : at + length (frame_text n (frames_of i f)) ≤ length u = omega (arith, room, p) in
      (copied_fits u at (frame_text n (frames_of i f)) (lent_back u at (frame_text n (frames_of i f)) m b r here e c₁) here).1
      ∙ ap (λ (k : ℕ). splice u k (frame_text n (frames_of i f))) p

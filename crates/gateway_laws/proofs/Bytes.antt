-- A byte that is put behind those that its line has collected: it stands in the line's own part, and all sizes and other parts stay.
-- Assumes nothing.
use mathlib.Core.Path.{◌≡◌, refl, ap, ◌∙◌}
use mathlib.Core.Logic.{◌≢◌}
use mathlib.Core.List.{List, [], ◌∷◌}
use Prim.Native.Nat.{ℕ, ◌+◌, ◌<◌}
use native.Mathlib.Omega.{arith}
use lib.ListN.{length, length-set}
use Rattle.memory.specs.Sizes.{lines, frame_part, frames_size}
use Rattle.memory.proofs.Parts.{part_around, set_splice}
use Rattle.memory.proofs.Lines.{part_elsewhere}
use Rattle.line.specs.declared.Line.{Line}
use Rattle.looking.specs.Views.{frame_start, frames_of}
use Rattle.receiving.specs.Settled.{with_byte}
use Rattle.looking.specs.declared.Kind.{Kind}
use Rattle.looking.specs.declared.Kind.TheVariants.{Byte, Seconds}
use Rattle.gateway_laws.specs.Inner.Own.{own_byte}

module _ (l : Line) (i : ℕ) (f : List ℕ) (line : i < lines) (room : l.collected < frame_part) (bytes : length f ≡ frames_size) where
  -- where the byte goes
  byte_at : frame_start i + l.collected < length f
  byte_at = omega (arith, line, room, bytes)

  pub byte_own : (k : Kind) → frames_of i (with_byte k l i f) ≡ own_byte k l (frames_of i f)
  byte_own (Byte b) =
      ap (frames_of i) (set_splice f (frame_start i + l.collected) b byte_at)
      ∙ part_around f (frame_start i) frame_part l.collected (b ∷ []) (omega (arith, line, bytes)) (omega (arith, room))
  byte_own (Seconds s) = refl

  pub byte_length : (k : Kind) → length (with_byte k l i f) ≡ length f
  byte_length (Byte b) = length-set f (frame_start i + l.collected) b
  byte_length (Seconds s) = refl

  pub byte_other : (kind : Kind) (k : ℕ) → i ≢ k → frames_of k (with_byte kind l i f) ≡ frames_of k f
  byte_other (Byte b) k m =
      ap (frames_of k) (set_splice f (frame_start i + l.collected) b byte_at)
      ∙ part_elsewhere frame_part f i k l.collected (b ∷ []) m (omega (arith, line, bytes)) (omega (arith, room))
  byte_other (Seconds s) k m = refl

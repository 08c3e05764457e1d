-- What acting leaves of the other lines' parts, and of all sizes.
-- Assumes nothing.
use mathlib.Core.Path.{◌≡◌, refl}
use mathlib.Core.Logic.{◌≢◌}
use mathlib.Core.List.{List}
use Prim.Native.Nat.{ℕ, ◌+◌, ◌≤◌, ◌<◌}
use native.Mathlib.Omega.{arith}
use lib.ListN.{length}
use Rattle.memory.specs.Sizes.{message_limit, frame_part}
use Rattle.memory.proofs.Parts.{length_splice}
use Rattle.memory.proofs.Lines.{part_elsewhere}
use Rattle.line.specs.declared.Line.{Line}
use Rattle.line.proofs.Limits.{within_facts}
use Rattle.looking.specs.Views.{text_start, frames_of, texts_of, frame_text}
use Rattle.looking.specs.Inner.Ready.{Ready}
use Rattle.receiving.specs.Settled.{with_text, frames_after, texts_after}
use Rattle.looking.specs.Inner.Fitting.{TextFits, Fitting}
use Rattle.looking.specs.declared.Kind.{Kind}
use Rattle.looking.specs.declared.Act.{Act}
use Rattle.receiving.proofs.Pieces.{length_text}
use Rattle.gateway_laws.proofs.Rows.{text_rows, frame_rows}
use Rattle.gateway_laws.proofs.Bytes.{byte_length, byte_other}

module _ (l : Line) (i : ℕ) (u f : List ℕ) (ready : Ready l i u f) where
  -- a byte has room behind those collected
  room : l.collected < frame_part
  room = omega (arith, within_facts l ready.within)

  module _ (n : ℕ) (fits : TextFits l n) where
    text_room : text_start i + l.joined + length (frame_text n (frames_of i f)) ≤ length u
    text_room = omega (arith, ready, fits, length_text l i n u f ready fits)

    text_length : length (with_text l i n u f) ≡ length u
    text_length = length_splice u (text_start i + l.joined) (frame_text n (frames_of i f)) text_room

    text_other : (k : ℕ) → i ≢ k → texts_of k (with_text l i n u f) ≡ texts_of k u
    text_other k m =
        part_elsewhere message_limit u i k l.joined (frame_text n (frames_of i f)) m (omega (arith, ready)) (omega (arith, fits, length_text l i n u f ready fits))

  pub texts_length : (a : Act) → Fitting a l → length (texts_after a l i u f) ≡ length u
  texts_length = text_rows l i u f (λ x own. length x ≡ length u) refl text_length

  pub frames_length : (a : Act) (kind : Kind) → length (frames_after a kind l i f) ≡ length f
  frames_length a kind = frame_rows l i u f (λ x own. length x ≡ length f) kind refl (byte_length l i f ready.line room ready.bytes kind) a

  pub texts_other : (a : Act) → Fitting a l → (k : ℕ) → i ≢ k → texts_of k (texts_after a l i u f) ≡ texts_of k u
  texts_other a t k m = text_rows l i u f (λ x own. texts_of k x ≡ texts_of k u) refl (λ n h. text_other n h k m) a t

  pub frames_other : (a : Act) (kind : Kind) (k : ℕ) → i ≢ k → frames_of k (frames_after a kind l i f) ≡ frames_of k f
  frames_other a kind k m = frame_rows l i u f (λ x own. frames_of k x ≡ frames_of k f) kind refl (byte_other l i f ready.line room ready.bytes kind k m) a

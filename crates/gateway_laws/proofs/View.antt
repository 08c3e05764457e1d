-- An event sees of the lent memory its own line's parts, and what it leaves of them is told of them alone: with other bytes elsewhere its work is the same.
-- Assumes nothing.
use mathlib.Core.Path.{◌≡◌, refl, ap₂}
use mathlib.Core.List.{List}
use Prim.Native.Nat.{ℕ}
use native.Mathlib.Omega.{arith}
use Rattle.memory.specs.Sizes.{message_limit}
use Rattle.memory.specs.Parts.{splice}
use Rattle.memory.proofs.Parts.{part_around}
use Rattle.journal.specs.declared.Ledger.{Ledger}
use Rattle.line.specs.declared.Line.{Line}
use Rattle.line.proofs.Limits.{within_facts}
use Rattle.looking.specs.Views.{text_start, frames_of, texts_of, frame_text}
use Rattle.looking.specs.Inner.Ready.{Ready}
use Rattle.receiving.specs.Verdicts.{own_work, work_of}
use Rattle.receiving.specs.Settled.{with_text, frames_after, texts_after}
use Rattle.looking.specs.Inner.Fitting.{TextFits, Fitting}
use Rattle.looking.specs.declared.Event.{Event}
use Rattle.looking.specs.declared.Kind.{Kind}
use Rattle.looking.specs.declared.Act.{Act}
use Rattle.receiving.proofs.Pieces.{length_text}
use Rattle.gateway_laws.specs.Inner.Own.{own_frames, own_texts}
use Rattle.gateway_laws.proofs.Rows.{text_rows, frame_rows}
use Rattle.gateway_laws.proofs.Bytes.{byte_own}

-- two memories that agree on the line's parts
pub same_work : (shares : List ℕ) (l : Line) (d : Ledger) (e : Event) (j u f u' f' : List ℕ) → texts_of e.line u ≡ texts_of e.line u' → frames_of e.line f ≡ frames_of e.line f'
    → work_of shares l d e j u f ≡ work_of shares l d e j u' f'
same_work shares l d e j u f u' f' texts frames = ap₂ (own_work shares l d e.line e.kind j) texts frames

-- what is left of the line's own parts, in their own terms
module _ (l : Line) (i : ℕ) (u f : List ℕ) (ready : Ready l i u f) where
  text_own : (n : ℕ) → TextFits l n → texts_of i (with_text l i n u f) ≡ splice (texts_of i u) l.joined (frame_text n (frames_of i f))
  text_own n t =
      part_around u (text_start i) message_limit l.joined (frame_text n (frames_of i f)) (omega (arith, ready)) (omega (arith, t, length_text l i n u f ready t))

  pub texts_own : (a : Act) → Fitting a l → texts_of i (texts_after a l i u f) ≡ own_texts a l (texts_of i u) (frames_of i f)
  texts_own = text_rows l i u f (λ x own. texts_of i x ≡ own) refl text_own

  pub frames_own : (a : Act) (k : Kind) → frames_of i (frames_after a k l i f) ≡ own_frames a k l (frames_of i f)
  frames_own a k = frame_rows l i u f (λ x own. frames_of i x ≡ own) k refl (byte_own l i f ready.line (omega (arith, within_facts l ready.within)) ready.bytes k) a

-- What a line has to itself, and what it speaks: the limits of its record and what goes out on it, by that.
-- Assumes nothing.
use mathlib.Core.Path.{◌≡◌, sym, ap, ◌∙◌}
use mathlib.Core.Bool.{Bool, true}
use Prim.Native.Nat.{ℕ}
use Rattle.settings.specs.Settings.{by_dialogue}
use Rattle.settings.specs.declared.Patient.{Patient}
use Rattle.settings.specs.declared.Dialogue.{Dialogue}
use Rattle.settings.specs.declared.Dialogue.TheVariants.{Frames, Blocks}
use Rattle.line.specs.Line.{within_limits, block_within, record_within}
use Rattle.line.specs.declared.Line.{Line}
use Rattle.answers.specs.InNumbers.{reply_byte}
use Rattle.answers.specs.Paper.{first_out}
use Rattle.answers.specs.declared.Answer.{Answer}
use Rattle.journal_laws.specs.Runs.{State as Store}
use Rattle.gateway.specs.Out.{block_out}
use Rattle.looking.specs.declared.Kind.{Kind}
use Rattle.promises.specs.Machine.{response, Parts, frames_out, told}
use Rattle.promises.specs.Inner.ByParts.{on_frames, on_blocks, on_event}

pub same_parts : (p q : Parts) → p.line ≡ q.line → p.texts ≡ q.texts → p.frames ≡ q.frames → p.memo ≡ q.memo → p ≡ q
same_parts p q l t f m = λ z. record { line = l z; texts = t z; frames = f z; memo = m z }

-- ---- the limits of a record

module _ (l : Line) where
  abbrev by : Dialogue → Bool
  by d = by_dialogue d (within_limits l) (λ p. block_within p l)

  pub frames_within : l.settings.dialogue ≡ Frames → record_within l ≡ true → within_limits l ≡ true
  frames_within e h = sym (ap by e) ∙ h

  pub blocks_within : (p : Patient) → l.settings.dialogue ≡ Blocks p → record_within l ≡ true → block_within p l ≡ true
  blocks_within p e h = sym (ap by e) ∙ h

  pub within_frames : l.settings.dialogue ≡ Frames → within_limits l ≡ true → record_within l ≡ true
  within_frames e h = ap by e ∙ h

  pub within_blocks : (p : Patient) → l.settings.dialogue ≡ Blocks p → block_within p l ≡ true → record_within l ≡ true
  within_blocks p e h = ap by e ∙ h

-- ---- events, and what goes out

module _ (p : Parts) where
  pub told_frames : (a : Answer) → p.line.settings.dialogue ≡ Frames → told a p ≡ response a (frames_out a p)
  told_frames a e = ap (λ (d : Dialogue). response a (by_dialogue d (frames_out a p) (λ q. block_out (reply_byte (first_out a)) p.memo.reader.reply))) e

  pub told_blocks : (a : Answer) (q : Patient) → p.line.settings.dialogue ≡ Blocks q → told a p ≡ response a (block_out (reply_byte (first_out a)) p.memo.reader.reply)
  told_blocks a q e = ap (λ (d : Dialogue). response a (by_dialogue d (frames_out a p) (λ q. block_out (reply_byte (first_out a)) p.memo.reader.reply))) e

  pub on_frames_law : (i : ℕ) (k : Kind) (j : Store) → p.line.settings.dialogue ≡ Frames → on_event i p k j ≡ on_frames i p k j
  on_frames_law i k j e = ap (λ (d : Dialogue). by_dialogue d (on_frames i p k j) (λ q. on_blocks q i p k j)) e

  pub on_blocks_law : (i : ℕ) (k : Kind) (j : Store) (q : Patient) → p.line.settings.dialogue ≡ Blocks q → on_event i p k j ≡ on_blocks q i p k j
  on_blocks_law i k j q e = ap (λ (d : Dialogue). by_dialogue d (on_frames i p k j) (λ q. on_blocks q i p k j)) e

-- An event leaves records within their limits, kept blocks as long as they are, and memory of the right sizes, whatever its line speaks.
-- Assumes nothing.
use mathlib.Core.Path.{◌≡◌, refl, sym, ap, subst, ◌∙◌}
use mathlib.Core.Bool.{true}
use mathlib.Core.List.{List, [], ◌∷◌}
use Prim.Native.Nat.{ℕ, ◌≤◌, ◌<◌}
use native.Mathlib.Omega.{arith}
use lib.ListN.{length, length-append}
use Rattle.memory.specs.Sizes.{lines, frame_part}
use Rattle.memory.specs.Parts.{part}
use Rattle.memory.proofs.Parts.{length_part, length_splice}
use Rattle.room.specs.Room.{todays_shares}
use Rattle.settings.specs.Settings.{results_length, block_limit}
use Rattle.settings.specs.declared.Settings.{Settings}
use Rattle.settings.specs.declared.Patient.{Patient}
use Rattle.settings.specs.declared.Patient.TheVariants.{Ten, Thirteen}
use Rattle.settings.specs.declared.Dialogue.{Dialogue}
use Rattle.settings.specs.declared.Dialogue.TheVariants.{Frames, Blocks}
use Rattle.line.specs.Line.{record_within}
use Rattle.line.specs.declared.Line.{Line}
use Rattle.line.proofs.Limits.{within_facts, within_of}
use Rattle.looking.specs.Views.{frame_start, frames_of}
use Rattle.looking.specs.declared.Act.{Act}
use Rattle.looking.specs.declared.Kind.{Kind}
use Rattle.looking.specs.declared.Kind.TheVariants.{Byte, Seconds}
use Rattle.receiving.specs.Settled.{line_after}
use Rattle.strips.specs.Readers.{Memo}
use Rattle.uploads.specs.Uploads.{Deed, leave, add, settle, file, Ruling, line_by, memo_by, block_of}
use Rattle.gateway.specs.Events.{line_at, dialogue_at, AfterEvent}
use Rattle.gateway_laws.proofs.Gateways.{act_settings, as_many_lines, as_many_memos}
use Rattle.gateway_laws.proofs.Laws.{line_within}
use Rattle.gateway_laws.proofs.Others.{texts_length, frames_length}
use Rattle.gateway_laws.proofs.Rulings.{block_facts}
use Rattle.gateway_laws.proofs.Uploads.{deed_settings, deed_within, work_room, blocks_length}
use Rattle.promises.specs.Machine.{State, on_line, step, Parts, parts_of, store_of, came}
use Rattle.promises.specs.Inner.ByParts.{parts_by, on_event}
use Rattle.promises.specs.Sending.{Intact}
use Rattle.promises.proofs.Parts.{within_frames, within_blocks, on_frames_law, on_blocks_law}
use Rattle.promises.proofs.Framed as framed
use Rattle.promises.proofs.Uploaded as uploaded
use Rattle.promises.proofs.Sound.{event_own, event_others, each_line, Shaped}

-- what a line has is in order: its record is within its limits, and a kept block as long as it is
pub record Ordered (p : Parts) : Type 0 where
  pub within : record_within p.line ≡ true
  pub block : length p.memo.block ≡ block_limit

pub lines_ordered : (s : State) → Intact s → (i : ℕ) → i < lines → Ordered (parts_of s i)
lines_ordered s w i h = record { within = w.within i h; block = w.blocks i h }

-- a block is no longer than the longest of all
longest : (p : Patient) → results_length p ≤ block_limit
longest Ten = omega arith
longest Thirteen = omega arith

block_short : (p : Patient) (k : Kind) (l : Line) (frames : List ℕ) → l.collected < results_length p → l.collected < frame_part → length frames ≡ frame_part → length (block_of k l frames) ≤ block_limit
block_short p (Byte b) l frames h room long =
    omega (arith, longest p, h, length-append (part frames 0 l.collected) (b ∷ []), length_part frames 0 l.collected (omega (arith, room, long)))
block_short p (Seconds n) l frames h room long = omega arith

memo_long : (x : Deed) (w : Memo) (bs : List ℕ) → length bs ≤ block_limit → length w.block ≡ block_limit → length (memo_by x w bs).block ≡ block_limit
memo_long leave w bs short long = long
memo_long add w bs short long = long
memo_long (settle r) w bs short long = long
memo_long file w bs short long = length_splice w.block 0 bs (omega (arith, short, long)) ∙ long

module _ (s : State) (w : Intact s) (i : ℕ) (k : Kind) (h : i < lines) where
  abbrev own : Line
  own = line_at s.gateway i

  abbrev then : State
  then = (step s (came i k)).1

  -- the line's own parts, and the sizes of the memory
  record Leaves : Type 0 where
    parts : Ordered (on_event i (parts_of s i) k (store_of s)).1
    texts : length then.memory.unfinished ≡ length s.memory.unfinished
    frames : length then.memory.frames ≡ length s.memory.frames

  module _ (e : dialogue_at s.gateway i ≡ Frames) where
    abbrev act : Act
    act = (framed.work s w i k h e).act

    act_within : record_within (line_after act own) ≡ true
    act_within =
        within_frames (line_after act own) (ap (λ (t : Settings). t.dialogue) (act_settings act own) ∙ e)
        (within_of (line_after act own) (line_within todays_shares own s.gateway.ledger (on_line i k) s.memory act (within_facts own (framed.within s w i k h e)) (framed.fitting s w i k h e)))

    frames_leave : Leaves
    frames_leave = record {
      parts = subst (λ (r : _ × Parts × _). Ordered r.1) (sym (on_frames_law (parts_of s i) i k (store_of s) e)) (record { within = act_within; block = w.blocks i h });
      texts =
          ap (λ (x : AfterEvent). length x.memory.unfinished) (framed.event_is s w i k h e)
          ∙ texts_length own i s.memory.unfinished s.memory.frames (framed.ready s w i k h e) act (framed.fitting s w i k h e);
      frames =
          ap (λ (x : AfterEvent). length x.memory.frames) (framed.event_is s w i k h e)
          ∙ frames_length own i s.memory.unfinished s.memory.frames (framed.ready s w i k h e) act k;
    }

  module _ (p : Patient) (e : dialogue_at s.gateway i ≡ Blocks p) where
    abbrev ruled : Ruling
    ruled = uploaded.work s w i k h p e

    abbrev mine : List ℕ
    mine = frames_of i s.memory.frames

    deed_left : record_within (line_by ruled.deed own) ≡ true
    deed_left =
        within_blocks (line_by ruled.deed own) p (ap (λ (t : Settings). t.dialogue) (deed_settings ruled.deed own) ∙ e)
        (deed_within p own (uploaded.within s w i k h p e) ruled.deed (work_room todays_shares p own (parts_of s i).memo s.gateway.ledger i k s.memory.journal mine))

    kept_long : length (parts_by ruled.deed (parts_of s i) k).memo.block ≡ block_limit
    kept_long =
        let short = block_short p k own mine (block_facts p own (uploaded.within s w i k h p e)).0 (uploaded.room s w i k h p e) (length_part s.memory.frames (frame_start i) frame_part (omega (arith, w.frames))) in
        memo_long ruled.deed (parts_of s i).memo (block_of k own mine) short (w.blocks i h)

    blocks_leave : Leaves
    blocks_leave = record {
      parts = subst (λ (r : _ × Parts × _). Ordered r.1) (sym (on_blocks_law (parts_of s i) i k (store_of s) p e)) (record { within = deed_left; block = kept_long });
      texts = ap (λ (x : AfterEvent). length x.memory.unfinished) (uploaded.event_is s w i k h p e);
      frames =
          ap (λ (x : AfterEvent). length x.memory.frames) (uploaded.event_is s w i k h p e)
          ∙ blocks_length own i s.memory.frames h (uploaded.room s w i k h p e) w.frames ruled.deed k;
    }

  leaves : Leaves
  leaves = by_dialogue_law (dialogue_at s.gateway i) refl
    where
      by_dialogue_law : (d : Dialogue) → dialogue_at s.gateway i ≡ d → Leaves
      by_dialogue_law Frames e = frames_leave e
      by_dialogue_law (Blocks p) e = blocks_leave p e

  pub event_shaped : Shaped then
  event_shaped =
      let each = each_line Ordered s then i _ (event_own s w i k h) (event_others s w i k h) leaves.parts (lines_ordered s w) in
      record {
        as_many = as_many_lines todays_shares s.gateway (on_line i k) s.memory ∙ w.as_many;
        as_many_memos = as_many_memos todays_shares s.gateway (on_line i k) s.memory ∙ w.as_many_memos;
        within = λ l m. (each l m).within;
        blocks = λ l m. (each l m).block;
        texts = leaves.texts ∙ w.texts;
        frames = leaves.frames ∙ w.frames;
      }

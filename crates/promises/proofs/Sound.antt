-- An event of an intact state, and so of every state of a run: it is told by its line's parts and the store.
-- Assumes nothing.
use mathlib.Core.Path.{◌≡◌, refl, sym, ap, subst, ◌∙◌}
use mathlib.Core.Logic.{◌≢◌}
use mathlib.Core.Bool.{true}
use mathlib.Core.List.{List}
use Prim.Native.Nat.{ℕ, ◌<◌}
use native.Mathlib.Decide.{ℕ_discrete}
use lib.ListN.{length, get_or}
use Rattle.memory.specs.Sizes.{lines, unfinished_size, frames_size}
use Rattle.header.specs.Header.{serial_count}
use Rattle.header.specs.Entry.{Entry}
use Rattle.room.specs.Room.{todays_shares}
use Rattle.journal.specs.Chain.{chain}
use Rattle.journal_laws.specs.Held.{Held}
use Rattle.journal_laws.specs.Runs.{State as Store}
use Rattle.settings.specs.Settings.{block_limit}
use Rattle.settings.specs.declared.Dialogue.{Dialogue}
use Rattle.settings.specs.declared.Dialogue.TheVariants.{Frames, Blocks}
use Rattle.line.specs.Line.{record_within}
use Rattle.gateway.specs.Events.{line_at, dialogue_at, memo_at}
use Rattle.looking.specs.declared.Kind.{Kind}
use Rattle.promises.specs.Machine.{State, Response, step, Parts, parts_of, store_of, Sound, came}
use Rattle.promises.specs.Inner.ByParts.{on_event}
use Rattle.promises.specs.Sending.{Intact}
use Rattle.promises.proofs.Parts.{on_frames_law, on_blocks_law}
use Rattle.promises.proofs.Framed.{framed_answer, framed_own, framed_journal, framed_others}
use Rattle.promises.proofs.Uploaded.{uploaded_answer, uploaded_own, uploaded_journal, uploaded_others}

-- every state that a run leaves is intact
pub sound_intact : (s : State) → Sound s → Intact s
sound_intact s w = record {
  as_many = w.as_many;
  as_many_memos = w.as_many_memos;
  within = w.within;
  blocks = w.blocks;
  texts = w.texts;
  frames = w.frames;
  journal = w.held.long;
  lines_used = w.held.lines_used;
  lines_serials = w.held.lines_serials;
  serials = w.held.serials;
  entries = w.entries;
  whole = w.held.whole;
}

-- whatever its line speaks
module _ (s : State) (w : Intact s) (i : ℕ) (k : Kind) (h : i < lines) where
  abbrev had : Parts
  had = parts_of s i

  -- what is left, and the answer, are those that the line's parts and the store tell
  abbrev Tells : (Response × Parts × Store) → Type 0
  Tells r = ((step s (came i k)).0 ≡ r.0) × (parts_of (step s (came i k)).1 i ≡ r.1) × (store_of (step s (came i k)).1 ≡ r.2)

  tells : Tells (on_event i had k (store_of s))
  tells = by_dialogue_law (dialogue_at s.gateway i) refl
    where
      by_dialogue_law : (d : Dialogue) → dialogue_at s.gateway i ≡ d → Tells (on_event i had k (store_of s))
      by_dialogue_law Frames e = subst Tells (sym (on_frames_law had i k (store_of s) e)) (framed_answer s w i k h e, framed_own s w i k h e, framed_journal s w i k h e)
      by_dialogue_law (Blocks p) e = subst Tells (sym (on_blocks_law had i k (store_of s) p e)) (uploaded_answer s w i k h p e, uploaded_own s w i k h p e, uploaded_journal s w i k h p e)

  pub event_answer : (step s (came i k)).0 ≡ (on_event i had k (store_of s)).0
  event_answer = tells.0

  pub event_own : parts_of (step s (came i k)).1 i ≡ (on_event i had k (store_of s)).1
  event_own = tells.1

  pub event_journal : store_of (step s (came i k)).1 ≡ (on_event i had k (store_of s)).2
  event_journal = tells.2

  -- every other line has what it had, what is kept of a reader too
  pub event_others : (l : ℕ) → l ≢ i → parts_of (step s (came i k)).1 l ≡ parts_of s l
  event_others l n = by_dialogue_law (dialogue_at s.gateway i) refl
    where
      by_dialogue_law : (d : Dialogue) → dialogue_at s.gateway i ≡ d → parts_of (step s (came i k)).1 l ≡ parts_of s l
      by_dialogue_law Frames e = framed_others s w i k h e l n
      by_dialogue_law (Blocks p) e = uploaded_others s w i k h p e l n

-- what holds of what line i has after an item, and held of what every other line had, holds of every line
pub each_line : (P : Parts → Type 0) (s t : State) (i : ℕ) (p : Parts) → parts_of t i ≡ p → ((l : ℕ) → l ≢ i → parts_of t l ≡ parts_of s l) → P p → ((l : ℕ) → l < lines → P (parts_of s l))
    → (l : ℕ) → l < lines → P (parts_of t l)
each_line P s t i p own others here each l m = elim (ℕ_discrete l i) [
  | yes q ↦ subst (λ (x : ℕ). P (parts_of t x)) (sym q) (subst P (sym own) here)
  | no q ↦ subst P (sym (others l q)) (each l m)
]

-- ---- a state without its store: eight records within their limits, eight kept blocks, and memory of the right sizes

pub record Shaped (s : State) : Type 0 where
  pub as_many : length s.gateway.lines ≡ lines
  pub as_many_memos : length s.gateway.memos ≡ lines
  pub within : (i : ℕ) → i < lines → record_within (line_at s.gateway i) ≡ true
  pub blocks : (i : ℕ) → i < lines → length (memo_at s.gateway i).block ≡ block_limit
  pub texts : length s.memory.unfinished ≡ unfinished_size
  pub frames : length s.memory.frames ≡ frames_size

pub shaped_sound : (s : State) → Shaped s → (es : List Entry) → Held todays_shares s.gateway.ledger s.memory.journal es → Sound s
shaped_sound s w es held = record {
  as_many = w.as_many;
  as_many_memos = w.as_many_memos;
  within = w.within;
  blocks = w.blocks;
  texts = w.texts;
  frames = w.frames;
  entries = es;
  held = held;
}

-- with the store of an intact state it is intact
pub shaped_intact : (s t : State) → Intact s → Shaped t → store_of t ≡ store_of s → Intact t
shaped_intact s t w v same = record {
  as_many = v.as_many;
  as_many_memos = v.as_many_memos;
  within = v.within;
  blocks = v.blocks;
  texts = v.texts;
  frames = v.frames;
  journal = ap (λ (j : Store). length j.journal) same ∙ w.journal;
  lines_used = ap (λ (j : Store). length j.ledger.used) same ∙ w.lines_used;
  lines_serials = ap (λ (j : Store). length j.ledger.serials) same ∙ w.lines_serials;
  serials = λ i h. subst (λ (j : Store). get_or j.ledger.serials i 0 < serial_count) (sym same) (w.serials i h);
  entries = w.entries;
  whole = ap (λ (j : Store). chain j.ledger j.journal) same ∙ w.whole;
}

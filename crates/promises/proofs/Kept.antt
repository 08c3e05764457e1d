-- Every item keeps a state sound, and a fresh gateway is sound.
-- Assumes nothing.
use mathlib.Core.Path.{◌≡◌, refl, sym, ap, subst, ◌∙◌}
use mathlib.Core.Logic.{◌⊎◌, inl, inr}
use mathlib.Core.Bool.{true}
use mathlib.Core.List.{List, [], ◌∷◌, map}
use Prim.Native.Nat.{ℕ, zero, suc, ◌<◌}
use native.Mathlib.Omega.{arith}
use lib.ListN.{length, get_or, length-replicate, get_or-replicate}
use Rattle.memory.specs.Sizes.{lines}
use Rattle.faults.proofs.Messages.{message_some, message_short}
use Rattle.header.specs.Entry.{Entry}
use Rattle.room.specs.Room.{todays_shares}
use Rattle.journal_laws.specs.Held.{Held}
use Rattle.journal_laws.specs.Runs.{State as Store}
use Rattle.journal.specs.Removal.{AfterTaking, take_of as take_entry}
use Rattle.journal_laws.proofs.Cases.{Gives, Keeps, take_cases}
use Rattle.journal_laws.proofs.Guarantees.{fresh_today}
use Rattle.journal_laws.proofs.Keeps.{store_held}
use Rattle.settings.specs.Settings.{block_limit, standard_settings}
use Rattle.settings.specs.declared.Settings.{Settings}
use Rattle.settings.specs.declared.Patient.{Patient}
use Rattle.settings.specs.declared.Patient.TheVariants.{Ten, Thirteen}
use Rattle.settings.specs.declared.Dialogue.{Dialogue}
use Rattle.settings.specs.declared.Dialogue.TheVariants.{Frames, Blocks}
use Rattle.line.specs.Line.{started_line, most_collected, within_limits, block_within, record_within}
use Rattle.journal.specs.declared.Ledger.{Ledger}
use Rattle.strips.specs.Readers.{Memo, fresh_memo}
use Rattle.receiving.specs.Steps.{memory_of}
use Rattle.gateway.specs.Events.{no_record, take_of}
use Rattle.looking.specs.declared.Kind.{Kind}
use Rattle.serial.specs.Serial.{event, taking}
use Rattle.promises.specs.Machine.{State, step, GatewayItem, happens, starts, came, store_of, Sound, May}
use Rattle.promises.specs.Runs.{Beginning, Right, fresh}
use Rattle.promises.specs.Inner.Came.{store, Came, quiet, stored, crowded, against}
use Rattle.promises.proofs.Sound.{sound_intact, shaped_sound}
use Rattle.promises.proofs.Parts.{within_frames, within_blocks}
use Rattle.promises.proofs.Shapes.{event_shaped}
use Rattle.promises.proofs.Starts.{start_sound}
use Rattle.promises.proofs.Came.{comes_to}

-- the journal is whole and keeps every share, whatever it holds
record Holds (j : Store) : Type 0 where
  entries : List Entry
  held : Held todays_shares j.ledger j.journal entries

-- it is so after every event: only a message is stored, and only with room for it
came_holds : (s : State) (w : Sound s) (i : ℕ) (k : Kind) → i < lines → Came s i k → Holds (store s i k)
came_holds s w i k h c = by_case c
  where
    same : Holds (store_of s)
    same = record { entries = w.entries; held = w.held }

    by_case : Came s i k → Holds (store s i k)
    by_case (quiet x) = subst Holds (sym x.kept) same
    by_case (stored t m room x) =
        let one = store_held todays_shares s.gateway.ledger i t s.memory.journal w.entries w.held h (message_some _ t m) (message_short _ t m) room in
        subst Holds (sym x.left) (record { entries = _; held = one })
    by_case (crowded t m room x) = subst Holds (sym x.left) same
    by_case (against t m x) = subst Holds (sym x.left) same

module _ (s : State) (w : Sound s) where
  event_sound : (i : ℕ) (k : Kind) → i < lines → Sound (step s (came i k)).1
  event_sound i k h =
      let v = sound_intact s w in
      let holds = came_holds s w i k h (comes_to s v i k h) in
      shaped_sound (step s (came i k)).1 (event_shaped s v i k h) holds.entries holds.held

  -- the lines' records and parts stay, whatever becomes of the store
  with_store : (d : Ledger) (j : List ℕ) (es : List Entry) → Held todays_shares d j es
      → Sound (record { gateway = record { lines = s.gateway.lines; memos = s.gateway.memos; ledger = d }; memory = memory_of j s.memory.unfinished s.memory.frames })
  with_store d j es held = record {
    as_many = w.as_many;
    as_many_memos = w.as_many_memos;
    within = w.within;
    blocks = w.blocks;
    texts = w.texts;
    frames = w.frames;
    entries = es;
    held = held;
  }

  -- what a taking leaves
  abbrev taken : AfterTaking → State
  taken x = record {
    gateway = record { lines = s.gateway.lines; memos = s.gateway.memos; ledger = x.taking.ledger };
    memory = memory_of x.journal s.memory.unfinished s.memory.frames;
  }

  module _ (i : ℕ) (b : List ℕ) where
    taking_holds : Gives todays_shares s.gateway.ledger i s.memory.journal b w.entries ⊎ Keeps s.gateway.ledger i s.memory.journal b
        → Sound (taken (take_entry s.gateway.ledger i s.memory.journal b))
    taking_holds (inl g) =
        subst (λ (x : AfterTaking). Sound (taken x)) (sym g.is) (with_store _ _ _ g.held)
    taking_holds (inr q) =
        subst (λ (x : AfterTaking). Sound (taken x)) (sym q.is) (with_store _ _ _ w.held)

    taking_sound : Sound (step s (taking i b)).1
    unfolding take_of
    taking_sound = taking_holds (take_cases todays_shares s.gateway.ledger i s.memory.journal b w.entries w.held)

pub keeps : (s : State) (e : GatewayItem) → Sound s → May e → Sound (step s e).1
keeps s (event i (happens k)) w m = event_sound s w i k m
keeps s (event i (starts text)) w m = start_sound s w i text m
keeps s (taking i b) w m = taking_sound s w i b

-- ---- a beginning

-- a started line is within its limits, whatever it speaks
started_frames : (t : Settings) → t.dialogue ≡ Frames → within_limits (started_line t) ≡ true
unfolding within_limits most_collected
started_frames t e = rw e

started_blocks : (t : Settings) (p : Patient) → block_within p (started_line t) ≡ true
unfolding block_within
started_blocks t Ten = refl
started_blocks t Thirteen = refl

started_within : (t : Settings) → record_within (started_line t) ≡ true
started_within t = by_dialogue_law t.dialogue refl
  where
    by_dialogue_law : (d : Dialogue) → t.dialogue ≡ d → record_within (started_line t) ≡ true
    by_dialogue_law Frames e = within_frames (started_line t) e (started_frames t e)
    by_dialogue_law (Blocks p) e = within_blocks (started_line t) p e (started_blocks t p)

-- line i of a started gateway is as it was set
pub started_at : (ts : List Settings) (i : ℕ) → i < length ts → get_or (map started_line ts) i no_record ≡ started_line (get_or ts i standard_settings)
started_at [] i h = absurd (omega arith)
started_at (t ∷ ts) zero h = refl
started_at (t ∷ ts) (suc i) h = started_at ts i (omega arith)

length_started : (ts : List Settings) → length (map started_line ts) ≡ length ts
length_started [] = refl
length_started (t ∷ ts) = ap suc (length_started ts)

-- a fresh gateway is sound
pub fresh_sound : (b : Beginning) → Right b → Sound (fresh b)
fresh_sound b r = record {
  as_many = length_started b.settings ∙ r.settings;
  as_many_memos = length-replicate lines fresh_memo;
  within = λ i h. ap record_within (started_at b.settings i (omega (arith, r.settings))) ∙ started_within (get_or b.settings i standard_settings);
  blocks = λ i h. ap (λ (w : Memo). length w.block) (get_or-replicate lines i fresh_memo fresh_memo h) ∙ length-replicate {A = ℕ} block_limit 0;
  texts = r.sizes.texts;
  frames = r.sizes.frames;
  entries = [];
  held = fresh_today b.memory.journal r.sizes.journal;
}

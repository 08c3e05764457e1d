-- What holds of a reader's line past 40 to 42.
-- Assumes nothing.
use mathlib.Core.Path.{◌≡◌, sym, ap, subst, ◌∙◌}
use mathlib.Core.Bool.{true, ◌&&◌}
use mathlib.Core.List.{List}
use Prim.Native.Nat.{ℕ, ◌≤◌, ◌<◌}
use native.Mathlib.Omega.{arith}
use borrow.Author.Tests.{ltb-true, leb-true}
use lib.Dec.{ltb, leb}
use Rattle.memory.proofs.Tests.{clash, and_left, and_right}
use Rattle.settings.specs.Settings.{results_length, block_limit}
use Rattle.settings.specs.declared.Patient.{Patient}
use Rattle.settings.specs.declared.Patient.TheVariants.{Ten, Thirteen}
use Rattle.settings.specs.declared.Dialogue.{Dialogue}
use Rattle.settings.specs.declared.Dialogue.TheVariants.{Frames, Blocks}
use Rattle.settings.specs.declared.Settings.{Settings}
use Rattle.line.specs.Line.{block_within}
use Rattle.line.specs.declared.Line.{Line}
use Rattle.layout.specs.Layout.{collected_at, reply_at, since_at, kept_at, number_at}
use Rattle.numbers.specs.Plain.{dialogue_of, most_reply, reader_fits, block_fits, line_of}
use Rattle.numbers.proofs.Numbers.{Speech, in_frames, in_blocks, speech_is, numbers_facts, block_within_law}
use Rattle.uploads.specs.Inner.Ruled.{Reading, Room}

-- the longest block of a line is none that is too long
pub results_fit : (p : Patient) → results_length p ≤ block_limit
results_fit Ten = omega arith
results_fit Thirteen = omega arith

-- its record is within the limits, and so are the numbers of its reader
pub record ReaderWithin (ns : List ℕ) (p : Patient) (l : Line) (i : ℕ) : Type 0 where
  pub few : l.collected < results_length p
  pub within : block_within p l ≡ true
  pub reply : number_at ns i reply_at ≤ most_reply
  pub since : number_at ns i since_at ≤ 1
  pub kept : number_at ns i kept_at ≤ 1

module _ (ns f : List ℕ) (p : Patient) (l : Line) (i : ℕ) (g : Reading ns f p l i) where
  speaks_blocks_law : (line_of ns i).settings.dialogue ≡ Blocks p
  speaks_blocks_law = ap (λ (x : Line). x.settings.dialogue) (sym g.line) ∙ g.speaks

  of_numbers : block_fits ns i (results_length p) ≡ true → ReaderWithin ns p (line_of ns i) i
  of_numbers e =
      let reader = and_right (ltb (number_at ns i collected_at) (results_length p)) (reader_fits ns i) e in
      let flags = and_right (leb (number_at ns i reply_at) most_reply) (leb (number_at ns i since_at) 1 && leb (number_at ns i kept_at) 1) reader in
      record {
        few = ltb-true (number_at ns i collected_at) (results_length p) (and_left (ltb (number_at ns i collected_at) (results_length p)) (reader_fits ns i) e);
        within = block_within_law ns i p (numbers_facts ns i g.within) e;
        reply = leb-true (number_at ns i reply_at) most_reply (and_left (leb (number_at ns i reply_at) most_reply) (leb (number_at ns i since_at) 1 && leb (number_at ns i kept_at) 1) reader);
        since = leb-true (number_at ns i since_at) 1 (and_left (leb (number_at ns i since_at) 1) (leb (number_at ns i kept_at) 1) flags);
        kept = leb-true (number_at ns i kept_at) 1 (and_right (leb (number_at ns i since_at) 1) (leb (number_at ns i kept_at) 1) flags);
      }

  pub reader_within : ReaderWithin ns p l i
  reader_within = subst (λ (x : Line). ReaderWithin ns p x i) (sym g.line) (by_speech (speech_is ns i (numbers_facts ns i g.within).speech))
    where
      by_speech : Speech ns i → ReaderWithin ns p (line_of ns i) i
      by_speech (in_frames q) =
          let odd : ◌≡◌ {A = Dialogue} Frames (Blocks p) = sym (ap dialogue_of q) ∙ speaks_blocks_law in
          let z : ◌≡◌ {A = ℕ} 0 1 = cc in
          clash z
      by_speech (in_blocks o t n e) =
          let both : ◌≡◌ {A = Dialogue} (Blocks o) (Blocks p) = sym (ap (λ (x : Settings). x.dialogue) t) ∙ speaks_blocks_law in
          let same : o ≡ p = cc in
          of_numbers (subst (λ (x : Patient). block_fits ns i (results_length x) ≡ true) same e)

  pub reading_room : Room l i f
  reading_room = record { there = g.there; few = omega (arith, reader_within.few, results_fit p); size = g.size }

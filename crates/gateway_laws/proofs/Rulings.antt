-- What a ruling on a reader's line was found on: a refusal of 40 to 42, or a line within its limits, memory of the right sizes, and a ruling of five kinds.
-- What is shown of each kind holds of every ruling.
-- Assumes nothing.
use Rattle.strips.specs.declared.Reply.TheVariants.{Again, More}
use Rattle.strips.specs.declared.Reply.{Reply}
use Rattle.std.specs.Prelude.{None, Option, Result, Some}
use Rattle.journal.specs.declared.Refusal.{Refusal}
use mathlib.Core.Path.{◌≡◌, refl}
use mathlib.Core.Logic.{◌≢◌}
use mathlib.Core.Bool.{Bool, true, false, cond, ◌||◌}
use mathlib.Core.List.{List}
use Prim.Native.Nat.{ℕ, ◌+◌, ◌<◌}
use native.Mathlib.Omega.{arith}
use borrow.Author.Tests.{ltb-true, eqb-false}
use lib.Dec.{ltb, eqb}
use lib.ListN.{length}
use Rattle.memory.specs.Sizes.{lines, journal_size, unfinished_size, frames_size, frame_part}
use Rattle.memory.specs.Tests.{is, unless}
use Rattle.memory.proofs.Tests.{and_left, and_right}
use Rattle.characters.specs.Control.{stx, cr}
use Rattle.settings.specs.Settings.{results_length}
use Rattle.settings.specs.declared.Patient.{Patient}
use Rattle.settings.specs.declared.Patient.TheVariants.{Ten, Thirteen}
use Rattle.journal.specs.Verdicts.{judge_of}
use Rattle.journal.specs.declared.Ledger.{Ledger}
use Rattle.line.specs.Line.{counts_within, block_within}
use Rattle.line.specs.declared.Line.{Line}
use Rattle.answers.specs.declared.Answer.{Answer}
use Rattle.answers.specs.declared.Answer.TheVariants.{Nothing, NoLine, WrongSize, BeyondLimits}
use Rattle.looking.specs.Views.{frames_of}
use Rattle.looking.specs.Lent.{right_sizes}
use Rattle.looking.specs.declared.Event.{Event}
use Rattle.looking.specs.declared.Kind.{Kind}
use Rattle.looking.specs.declared.Kind.TheVariants.{Byte, Seconds}
use Rattle.looking.proofs.Alone.{lengths_facts}
use Rattle.receiving.specs.Steps.{Memory}
use Rattle.block.specs.Judged.{judged_of}
use Rattle.block.specs.declared.Judged.{Judged}
use Rattle.block.specs.declared.Judged.TheVariants as judged
use Rattle.finding.specs.Findings.{finding_of}
use Rattle.strips.specs.Readers.{Memo, is_again}
use Rattle.strips.specs.Sights.{is_inside, ends_block, sight_of}
use Rattle.strips.specs.Hearings.{reply_answer, hearing_of}
use Rattle.strips.specs.declared.Reader.{Reader}
use Rattle.strips.specs.declared.Sight.TheVariants.{Ignores, Adds, Judges}
use Rattle.uploads.specs.Uploads.{Ruling, ruling, leave, add, settle, filing, block_bytes, judged_block, seen_as, ruling_of, ruling_on}
use Rattle.gateway_laws.specs.Classes.{class_of, quiet, hearing}

-- what the limits of a reader's line say of its record; and a line's part of the frames holds its longest block
pub block_facts : (p : Patient) (l : Line) → block_within p l ≡ true → (l.collected < results_length p) × (counts_within l ≡ true)
unfolding block_within
block_facts p l e = (ltb-true _ _ (and_left (ltb l.collected (results_length p)) (counts_within l) e), and_right (ltb l.collected (results_length p)) (counts_within l) e)

pub block_room : (p : Patient) (n : ℕ) → n < results_length p → n < frame_part
block_room Ten n h = omega arith
block_room Thirteen n h = omega arith

-- a block that is not for storing is answered 11 or 70 to 72
reply_hearing : (r : Option Reply) → class_of (reply_answer r) ≡ hearing
reply_hearing None = refl
reply_hearing (Some More) = refl
reply_hearing (Some Again) = refl

pub hearing_class : (x : Judged) (again : Bool) (r : Reader) → (hearing_of x again r).stores ≡ false → class_of (hearing_of x again r).answer ≡ hearing
hearing_class judged.OddLength again r e = refl
hearing_class judged.OddTest again r e = refl
hearing_class judged.OddByte again r e = refl
hearing_class judged.Multiple again r e = refl
hearing_class judged.Repeat again r e = reply_hearing r.reply
hearing_class judged.End again r e = refl
hearing_class judged.Colours again r e = refl
hearing_class judged.Results true r e = refl
hearing_class judged.Results false r e = cc e

-- ---- the five kinds of rulings

module _ (shares : List ℕ) (p : Patient) (l : Line) (w : Memo) (d : Ledger) (i : ℕ) (k : Kind) (journal frames : List ℕ) where
  pub record Rulings (P : Ruling → Type 0) : Type 0 where
    pub ignored : P (ruling leave Nothing)
    pub added : l.collected + 1 ≢ results_length p → P (ruling add Nothing)
    pub heard : (r : Reader) (a : Answer) → class_of a ≡ hearing → P (ruling (settle r) a)
    pub filed : (q : Result (Unit {0}) Refusal) → P (filing q w.reader)

  pub every_ruling : (P : Ruling → Type 0) → Rulings P → P (ruling_of shares p l w d i k journal frames)
  unfolding ruling_of sight_of
  every_ruling P c = by_kind k
    where
      by_hearing : (x : Judged) (again : Bool) (q : Result (Unit {0}) Refusal) (stores : Bool) → (hearing_of x again w.reader).stores ≡ stores
          → P (unless stores (ruling (settle (hearing_of x again w.reader).reader) (hearing_of x again w.reader).answer) (filing q w.reader))
      by_hearing x again q true e = c.filed q
      by_hearing x again q false e = c.heard (hearing_of x again w.reader).reader (hearing_of x again w.reader).answer (hearing_class x again w.reader e)

      or_right : (a b : Bool) → a || b ≡ false → b ≡ false
      or_right true b e = cc e
      or_right false b e = e

      by_sight : (b : ℕ) (starts ends : Bool) → ends_block p l b ≡ ends → P (seen_as (unless starts Ignores (cond ends Judges Adds)) (judged_block shares p l w d i (block_bytes l b frames) journal))
      by_sight b false ends e = c.ignored
      by_sight b true true e =
          let bs = block_bytes l b frames in
          by_hearing (judged_of p bs) (is_again w bs) (judge_of d shares i (length (finding_of p bs)) journal) (hearing_of (judged_of p bs) (is_again w bs) w.reader).stores refl
      by_sight b true false e = c.added (eqb-false (l.collected + 1) (results_length p) (or_right (is cr b) (eqb (l.collected + 1) (results_length p)) e))

      by_kind : (k : Kind) → P (ruling_of shares p l w d i k journal frames)
      by_kind (Byte b) = by_sight b (is_inside l.state || is stx b) (ends_block p l b) refl
      by_kind (Seconds s) = c.ignored

-- ---- past 40 to 42

module _ (shares : List ℕ) (p : Patient) (l : Line) (w : Memo) (d : Ledger) (e : Event) (m : Memory) where
  pub record Ruled (x : Ruling) : Type 0 where
    pub line : e.line < lines
    pub journal : length m.journal ≡ journal_size
    pub texts : length m.unfinished ≡ unfinished_size
    pub bytes : length m.frames ≡ frames_size
    pub within : block_within p l ≡ true
    pub work : x ≡ ruling_of shares p l w d e.line e.kind m.journal (frames_of e.line m.frames)

  pub data Found : Ruling → Type 0 where
    refused : (a : Answer) → class_of a ≡ quiet → Found (ruling leave a)
    worked : {x : Ruling} → Ruled x → Found x

  abbrev work : Ruling
  work = ruling_of shares p l w d e.line e.kind m.journal (frames_of e.line m.frames)

  pub ruling_found : Found (ruling_on shares p l w d e m)
  unfolding ruling_on
  ruling_found = by_line_law (ltb e.line lines) refl
    where
      by_limits : (b : Bool) → e.line < lines → right_sizes m.journal m.unfinished m.frames ≡ true → block_within p l ≡ b → Found (unless b (ruling leave BeyondLimits) work)
      by_limits true h s q =
          let (size, texts, bytes) = lengths_facts (length m.journal) (length m.unfinished) (length m.frames) s in
          worked (record { line = h; journal = size; texts = texts; bytes = bytes; within = q; work = refl })
      by_limits false h s q = refused BeyondLimits refl

      by_sizes : (b : Bool) → e.line < lines → right_sizes m.journal m.unfinished m.frames ≡ b
          → Found (unless b (ruling leave WrongSize) (unless (block_within p l) (ruling leave BeyondLimits) work))
      by_sizes true h s = by_limits (block_within p l) h s refl
      by_sizes false h s = refused WrongSize refl

      by_line_law : (b : Bool) → ltb e.line lines ≡ b
          → Found (unless b (ruling leave NoLine) (unless (right_sizes m.journal m.unfinished m.frames) (ruling leave WrongSize) (unless (block_within p l) (ruling leave BeyondLimits) work)))
      by_line_law true h = by_sizes (right_sizes m.journal m.unfinished m.frames) (ltb-true e.line lines h) refl
      by_line_law false h = refused NoLine refl

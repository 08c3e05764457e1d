-- What a line offers, by what it speaks; and what a reader's line offers is a message: the finding of a right block with results.
-- Assumes nothing.
use Rattle.std.specs.Prelude.{None, Some}
use mathlib.Core.Path.{◌≡◌, refl, sym, ap, ◌∙◌}
use mathlib.Core.Bool.{Bool, true, false, cond}
use mathlib.Core.List.{List}
use Prim.Native.Nat.{ℕ}
use Rattle.memory.proofs.Tests.{clash, and_left}
use Rattle.settings.specs.Settings.{by_dialogue}
use Rattle.settings.specs.declared.Patient.{Patient}
use Rattle.settings.specs.declared.Dialogue.{Dialogue}
use Rattle.settings.specs.declared.Dialogue.TheVariants.{Frames, Blocks}
use Rattle.faults.specs.Message.{is_message}
use Rattle.block.specs.Judged.{judged_of}
use Rattle.block.specs.declared.Judged.{Judged}
use Rattle.block.specs.declared.Judged.TheVariants.{OddLength, OddTest, OddByte, Multiple, Repeat, End, Colours, Results}
use Rattle.finding.specs.Findings.{finding_of}
use Rattle.finding_laws.proofs.Message.{finding_message}
use Rattle.strips.specs.Readers.{Memo}
use Rattle.strips.specs.Sights.{sight_of}
use Rattle.strips.specs.declared.Sight.{Sight}
use Rattle.strips.specs.declared.Sight.TheVariants.{Ignores, Adds, Judges}
use Rattle.uploads.specs.Uploads.{block_bytes}
use Rattle.looking.specs.Looks.{look_of}
use Rattle.looking.specs.declared.Kind.{Kind}
use Rattle.looking.specs.declared.Kind.TheVariants.{Byte, Seconds}
use Rattle.gateway.specs.Events.{dialogue_at}
use Rattle.promises.specs.Machine.{State, Parts, parts_of}
use Rattle.promises.specs.Runs.{is_results, is_wanted, offered_by, offered_at, offered_in, offered}

pub is_results_law : (x : Judged) → is_results x ≡ true → x ≡ Results
is_results_law OddLength e = clash cc
is_results_law OddTest e = clash cc
is_results_law OddByte e = clash cc
is_results_law Multiple e = clash cc
is_results_law Repeat e = clash cc
is_results_law End e = clash cc
is_results_law Colours e = clash cc
is_results_law Results e = refl

pub wanted_results : (p : Patient) (w : Memo) (bs : List ℕ) → is_wanted p w bs ≡ true → judged_of p bs ≡ Results
wanted_results p w bs e = is_results_law (judged_of p bs) (and_left (is_results (judged_of p bs)) _ e)

pub wanted_message : (p : Patient) (w : Memo) (bs : List ℕ) → is_wanted p w bs ≡ true → is_message (finding_of p bs) ≡ true
wanted_message p w bs e = finding_message p bs (wanted_results p w bs e)

-- what a line of frames offers is told by the look
pub offered_look : (s : State) (i : ℕ) (k : Kind) → dialogue_at s.gateway i ≡ Frames → offered s i k ≡ offered_by s i (look_of (parts_of s i).line k (parts_of s i).texts (parts_of s i).frames)
offered_look s i k speaks =
    let own = parts_of s i in
    ap (λ (d : Dialogue). by_dialogue d (offered_by s i (look_of own.line k own.texts own.frames)) (λ q. offered_in q own.line own.memo own.frames k)) speaks

module _ (s : State) (i : ℕ) (k : Kind) (p : Patient) (speaks : dialogue_at s.gateway i ≡ Blocks p) where
  abbrev own : Parts
  own = parts_of s i

  -- what a reader's line offers is told by its own parts
  pub offered_block : offered s i k ≡ offered_in p own.line own.memo own.frames k
  offered_block =
      ap
      (λ (d : Dialogue). by_dialogue d (offered_by s i (look_of own.line k own.texts own.frames)) (λ q. offered_in q own.line own.memo own.frames k))
      speaks

  pub offered_finding : (t : List ℕ) → offered s i k ≡ Some t → is_message t ≡ true
  offered_finding t e = by_kind k (sym offered_block ∙ e)
    where
      by_wanted : (bs : List ℕ) (b : Bool) → is_wanted p own.memo bs ≡ b → cond b (Some (finding_of p bs)) None ≡ Some t → is_message t ≡ true
      by_wanted bs true q r =
          let same : finding_of p bs ≡ t = cc r in
          ap is_message (sym same) ∙ wanted_message p own.memo bs q
      by_wanted bs false q r = clash cc

      by_sight : (bs : List ℕ) (x : Sight) → offered_at p own.memo bs x ≡ Some t → is_message t ≡ true
      by_sight bs Ignores r = clash cc
      by_sight bs Adds r = clash cc
      by_sight bs Judges r = by_wanted bs (is_wanted p own.memo bs) refl r

      by_kind : (k : Kind) → offered_in p own.line own.memo own.frames k ≡ Some t → is_message t ≡ true
      by_kind (Byte b) r = by_sight (block_bytes own.line b own.frames) (sight_of p own.line b) r
      by_kind (Seconds n) r = clash cc

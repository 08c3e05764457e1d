-- What an event of the gateway comes to, shown once: at an intact state it passes, or the text that it completes is stored, crowded out, or no message.
-- Assumes nothing.
use Rattle.std.specs.Prelude.{Some}
use mathlib.Core.Path.{◌≡◌, refl, ap, ◌∙◌}
use mathlib.Core.Bool.{Bool, false}
use mathlib.Core.List.{List}
use Prim.Native.Nat.{ℕ, ◌<◌}
use lib.Dec.{eqb}
use Rattle.memory.specs.Sizes.{lines}
use Rattle.memory.proofs.Tests.{never_both}
use Rattle.faults.specs.Message.{is_message}
use Rattle.settings.specs.declared.Dialogue.{Dialogue}
use Rattle.settings.specs.declared.Dialogue.TheVariants.{Frames, Blocks}
use Rattle.gateway.specs.Events.{dialogue_at}
use Rattle.answers.specs.Paper.{number_of}
use Rattle.answers.specs.Inner.Objections.{is_objection}
use Rattle.answers.specs.declared.Answer.{Answer}
use Rattle.answers.proofs.Paper.{every_but, Objects, objection_objects}
use Rattle.deciding.specs.Decisions.{objection_to}
use Rattle.looking.specs.declared.Kind.{Kind}
use Rattle.deciding.proofs.Decisions.{objection_number}
use Rattle.gateway_laws.specs.Classes.{class_of}
use Rattle.promises.specs.Machine.{State, Response, step, is_decision, decides, came}
use Rattle.promises.specs.Runs.{answered, offered}
use Rattle.promises.specs.Sending.{Intact}
use Rattle.promises.specs.Inner.Came.{Came}
use Rattle.promises.proofs.CameFrames.{frames_come, frames_objected}
use Rattle.promises.proofs.Findings.{offered_finding}
use Rattle.promises.proofs.CameBlocks.{blocks_come}

module _ (s : State) (w : Intact s) (i : ℕ) (k : Kind) (line : i < lines) where
  pub comes_to : Came s i k
  comes_to = by_dialogue_law (dialogue_at s.gateway i) refl
    where
      by_dialogue_law : (d : Dialogue) → dialogue_at s.gateway i ≡ d → Came s i k
      by_dialogue_law Frames e = frames_come s w i k line e
      by_dialogue_law (Blocks p) e = blocks_come s w i k line p e

  -- what is no message is answered by what is wrong with it
  pub objected_with : (t : List ℕ) → offered s i k ≡ Some t → is_message t ≡ false → (step s (came i k)).0.answer ≡ objection_to t
  objected_with t complete m = by_dialogue_law (dialogue_at s.gateway i) refl
    where
      by_dialogue_law : (d : Dialogue) → dialogue_at s.gateway i ≡ d → (step s (came i k)).0.answer ≡ objection_to t
      by_dialogue_law Frames e = frames_objected s w i k line e t complete m
      by_dialogue_law (Blocks p) e = never_both (is_message t) (offered_finding s i k p e t complete) m

-- ---- the numbers

-- 4, 30 and 31 decide
abbrev deciding : Answer → Bool
deciding a = is_decision (class_of a)

pub undecided_other : (t : Response) → decides t ≡ false → (eqb (answered t) 4 ≡ false) × (eqb (answered t) 31 ≡ false)
undecided_other t e =
    (every_but deciding (λ a. eqb (number_of a) 4) (λ vs. refl) t.answer e, every_but deciding (λ a. eqb (number_of a) 31) (λ vs. refl) t.answer e)

pub undecided_not_30 : (t : Response) → decides t ≡ false → eqb (answered t) 30 ≡ false
undecided_not_30 t e = every_but deciding (λ a. eqb (number_of a) 30) (λ vs. refl) t.answer e

-- what is no message is answered an objection: neither 4 nor 31, nor one that speaks of damage
pub objected : (t : List ℕ) (n : ℕ) → n ≡ number_of (objection_to t) → Objects n
objected t n e = objection_objects n (ap is_objection e ∙ objection_number t)

-- A complete text is answered exactly as it is, in the host's own numbers.
-- Assumes nothing.
use Rattle.std.specs.Prelude.{Some}
use mathlib.Core.Path.{◌≡◌, sym, ap, ◌∙◌}
use mathlib.Core.Bool.{false}
use mathlib.Core.List.{List}
use Prim.Native.Nat.{ℕ, ◌<◌}
use Rattle.memory.specs.Sizes.{lines}
use Rattle.faults.specs.Message.{is_message}
use Rattle.looking.specs.declared.Kind.{Kind}
use Rattle.promises.specs.Machine.{came}
use Rattle.promises.specs.Runs.{offered}
use Rattle.promises.specs.Exactly.{Exactly, number_to as Exactly·numberTo, place_to as Exactly·placeTo}
use Rattle.promises.specs.Clean.{Clean, WrongAt}
use Rattle.promises.proofs.Exactly.{decided_intact}
use Rattle.promises.proofs.Clean.{offered_faulty, always_clean}
use Rattle.calls.specs.Calls.{HostState}
use Rattle.ngachodui_laws.specs.HostRuns.{gateway_state, HostResponse, number_to, place_to, Run, end_of}
use Rattle.ngachodui_laws.specs.Sound.{Intact}
use Rattle.ngachodui_laws.specs.Deciding.{DecidedExactly}
use Rattle.ngachodui_laws.proofs.HostRuns.{begun, begun_right, one_call, at_end}
use Rattle.ngachodui_laws.proofs.Sound.{intact}

-- of two numbers that are the same, one is n exactly where the other is
as_numbered : (a b n : ℕ) (B : Type 0) → a ≡ b → Exactly (b ≡ n) B → Exactly (a ≡ n) B
as_numbered a b n B same e = (λ p. e.0 (sym same ∙ p), λ q. same ∙ e.1 q)

pub decided_exactly : (s : HostState) → Intact s → (i : ℕ) → i < lines → (k : Kind) (text : List ℕ) → offered (gateway_state s) i k ≡ Some text → DecidedExactly s i k text
decided_exactly s w i h k text complete =
    let d = decided_intact (gateway_state s) (intact s w) i h k text complete in
    let response = (one_call s w.in_order (came i k)).response in
    let same : number_to s (came i k) ≡ Exactly·numberTo (gateway_state s) i k = ap (λ (r : HostResponse). r.answered.number) response in
    let there : place_to s (came i k) ≡ Exactly·placeTo (gateway_state s) i k = ap (λ (r : HostResponse). r.answered.place) response in
    record {
      stored = as_numbered _ _ 4 _ same d.stored;
      crowded = as_numbered _ _ 31 _ same d.crowded;
      faulty = λ f place. (
        λ e. (d.faulty f place).0 (sym same ∙ e.0, sym there ∙ e.1),
        λ e. let at = (d.faulty f place).1 e in (same ∙ at.0, there ∙ at.1),
      );
      foreign = as_numbered _ _ 30 _ same d.foreign;
    }

-- after a run, what is no message is wrong at one of its records
pub wrong_at : (r : Run) (i : ℕ) → i < lines → (k : Kind) (text : List ℕ) → offered (gateway_state (end_of r)) i k ≡ Some text → is_message text ≡ false → WrongAt text
wrong_at r i h k text complete m = offered_faulty (gateway_state (end_of r)) i k text complete (at_end r Clean (always_clean (begun r) (begun_right r) r.calls r.may)) h m

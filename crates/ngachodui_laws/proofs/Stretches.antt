-- Demand 3, of a host's runs: a host is a machine with lines too, and keeps nothing but what its lines and its journal have.
-- Assumes nothing.
use mathlib.Core.Path.{◌≡◌, refl, sym, ap, subst, ◌∙◌}
use mathlib.Core.Bool.{Bool, true, false, cond, not}
use mathlib.Core.List.{List, []}
use Prim.Native.Nat.{ℕ}
use Rattle.memory.specs.Sizes.{lines}
use Rattle.memory.proofs.Tests.{clash}
use Rattle.answers.specs.declared.Answer.{Answer}
use Rattle.answers.proofs.Paper.{every_answer}
use Rattle.gateway_laws.specs.Classes.{class_of}
use Rattle.journal_laws.specs.Runs.{State as Store}
use Rattle.serial.specs.Serial.{event, taking, serialize, count, OrderOf, GoesAlike}
use Rattle.serial.specs.Inner.Machine.{Lined, NothingElse}
use Rattle.serial.specs.Kept.{Rearranged}
use Rattle.serial.proofs.Demand as serial
use Rattle.answers.specs.Paper.{reply_of}
use Rattle.promises.specs.Machine.{State, Response, response, Coming, GatewayItem, is_decision, decides as decides_there, Parts, parts_of, store_of, Sound, May}
use Rattle.promises.specs.Inner.ByParts.{on_coming, on_taking}
use Rattle.promises.proofs.Stretches.{lined, nothing_else}
use Rattle.promises.proofs.Kept.{fresh_sound}
use Rattle.calls.specs.Calls.{HostState}
use Rattle.ngachodui_laws.specs.HostRuns.{gateway_state, InOrder, begin_of, HostResponse, host_step, decides, Run, history_of}
use Rattle.ngachodui_laws.specs.Inner.Hosting.{in_numbers_of}
use Rattle.ngachodui_laws.proofs.HostRuns.{begun, begun_right, one_call, fresh_in_order, fresh_is}
use Rattle.ngachodui_laws.proofs.Determined.{same_host}

-- 4, 30, 31 and those of faults are the numbers of the answers that decide
both_or_none : (a b : Bool) → cond a b (not b) ≡ true → a ≡ b
both_or_none true true h = refl
both_or_none true false h = clash cc
both_or_none false true h = clash cc
both_or_none false false h = refl

abbrev is_deciding : Answer → Bool
is_deciding a = decides (in_numbers_of (response a []))

decides_alike : (r : Response) → decides (in_numbers_of r) ≡ decides_there r
unfolding reply_of
decides_alike r =
    let test : Answer → Bool = λ a. cond (is_deciding a) (is_decision (class_of a)) (not (is_decision (class_of a))) in
    both_or_none (is_deciding r.answer) (is_decision (class_of r.answer)) (every_answer test (λ vs. refl) r.answer)

-- what a line has to itself, and what all lines share, is that of the gateway; responses are as the host sees them
abbrev pub parts_in : HostState → ℕ → Parts
parts_in s i = parts_of (gateway_state s) i

abbrev pub store_in : HostState → Store
store_in s = store_of (gateway_state s)

abbrev pub on_host_event : ℕ → Parts → Coming → Store → HostResponse × Parts × Store
on_host_event i p k j = (in_numbers_of (on_coming i p k j).0, (on_coming i p k j).1, (on_coming i p k j).2)

abbrev pub on_host_taking : ℕ → List ℕ → Store → HostResponse × Store
on_host_taking i b j = (in_numbers_of (on_taking i b j).0, (on_taking i b j).1)

pub record SoundHost (s : HostState) : Type 0 where
  pub in_order : InOrder s
  pub sound : Sound (gateway_state s)

pub host_lined : Lined parts_in store_in on_host_event on_host_taking decides lines host_step SoundHost May
host_lined = record {
  keeps = λ s e w m. record {
    in_order = (one_call s w.in_order e).in_order;
    sound = subst Sound (sym (one_call s w.in_order e).state) (lined.keeps (gateway_state s) e w.sound m);
  };
  on_line = λ i k m. m;
  event_answer = λ s i k w m. (one_call s w.in_order (event i k)).response ∙ ap in_numbers_of (lined.event_answer (gateway_state s) i k w.sound m);
  event_own = λ s i k w m. ap (λ (x : State). parts_of x i) (one_call s w.in_order (event i k)).state ∙ lined.event_own (gateway_state s) i k w.sound m;
  event_others = λ s i k w m l n. ap (λ (x : State). parts_of x l) (one_call s w.in_order (event i k)).state ∙ lined.event_others (gateway_state s) i k w.sound m l n;
  event_journal = λ s i k w m. ap store_of (one_call s w.in_order (event i k)).state ∙ lined.event_journal (gateway_state s) i k w.sound m;
  taking_answer = λ s i b w m. (one_call s w.in_order (taking i b)).response ∙ ap in_numbers_of (lined.taking_answer (gateway_state s) i b w.sound m);
  taking_lines = λ s i b w m l. ap (λ (x : State). parts_of x l) (one_call s w.in_order (taking i b)).state ∙ lined.taking_lines (gateway_state s) i b w.sound m l;
  taking_journal = λ s i b w m. ap store_of (one_call s w.in_order (taking i b)).state ∙ lined.taking_journal (gateway_state s) i b w.sound m;
  quiet = λ s i k w m e u v.
      let there = on_coming i (parts_in s i) k (store_in s) in
      ap (λ (x : Response × Parts × Store). (in_numbers_of x.0, x.1, x.2))
      (lined.quiet (gateway_state s) i k w.sound m (sym (decides_alike there.0) ∙ e) (gateway_state u) v.sound);
}

host_nothing_else : NothingElse parts_in store_in SoundHost
host_nothing_else s t w v same =
    same_host s t w.in_order v.in_order (nothing_else (gateway_state s) (gateway_state t) w.sound v.sound (record { each = same.each; journal = same.journal }))

fresh_sound_host : (r : Run) → SoundHost (begin_of r)
fresh_sound_host r = record { in_order = fresh_in_order r; sound = subst Sound (sym (fresh_is r)) (fresh_sound (begun r) (begun_right r)) }

module _ (r : Run) (order : List ℕ) (each : OrderOf lines order) where
  pub stretches : (zs : List (GatewayItem × HostResponse)) → Rearranged decides lines order (history_of r) zs → GoesAlike host_step (begin_of r) r.calls zs
  stretches = serial.demand _ _ _ _ _ _ _ _ _ host_lined order each (begin_of r) r.calls (fresh_sound_host r) r.may host_nothing_else

  pub stretches_met : Rearranged decides lines order (history_of r) (serialize decides order (history_of r))
  stretches_met = serial.demand_met _ _ _ _ _ _ _ _ _ host_lined order each (begin_of r) r.calls (fresh_sound_host r) r.may

  pub stretches_all : (zs : List (GatewayItem × HostResponse)) → Rearranged decides lines order (history_of r) zs → (p : GatewayItem × HostResponse → Bool)
      → count p zs ≡ count p (history_of r)
  stretches_all = serial.nothing_lost _ _ _ _ _ _ _ _ _ host_lined order each (begin_of r) r.calls (fresh_sound_host r) r.may

-- What goes in and comes out on a line, as a host sees it, is what does in the gateway: nothing is lost, and nothing comes twice.
-- Assumes nothing.
use Rattle.std.specs.Prelude.{Some}
use mathlib.Core.Path.{◌≡◌, refl, sym, ap, ap₂, subst, ◌∙◌}
use mathlib.Core.Bool.{Bool, true, false, cond, ◌&&◌}
use mathlib.Core.List.{List, [], ◌∷◌, ◌++◌, map}
use Prim.Native.Nat.{ℕ}
use lib.Dec.{eqb}
use lib.ListN.{get_or, take}
use Rattle.room.specs.Room.{todays_shares}
use Rattle.answers.specs.Paper.{values_of}
use Rattle.faults.specs.Message.{is_message}
use Rattle.journal.specs.Chain.{chain}
use Rattle.journal_laws.specs.Held.{Held}
use Rattle.journal_laws.specs.Runs.{Numbered, numbered, waiting}
use Rattle.serial.specs.Serial.{event, taking, annotate, Every}
use Rattle.promises.specs.Machine.{State, Response, GatewayItem, happens, starts, came, step}
use Rattle.promises.specs.Runs.{answered, fresh}
use Rattle.promises.specs.Queue.{completed, gave}
use Rattle.promises.specs.Queue as there
use Rattle.promises.proofs.Queue as gateway
use Rattle.promises.proofs.OnlyMessages as messages
use Rattle.calls.specs.Calls.{HostState}
use Rattle.ngachodui_laws.specs.HostRuns.{gateway_state, InOrder, begin_of, HostResponse, host_step, after, Run, history_of}
use Rattle.ngachodui_laws.specs.Queue.{given, all_taken, stored_by, all_stored, NothingLost, OnlyMessages}
use Rattle.ngachodui_laws.specs.Inner.Hosting.{in_numbers_of, seen_of}
use Rattle.ngachodui_laws.proofs.HostRuns.{begun, begun_right, one_call, runs_alike, fresh_in_order, fresh_is, history_is, at_end}

-- with 8 a host sees the answer's values
abbrev one : Bool → ℕ → List ℕ → List Numbered
one eight serial text = cond eight (record { serial = serial; text = text } ∷ []) []

given_by : (eight : Bool) (serial n : ℕ) (buffer : List ℕ) → one eight (cond eight serial 0) (take (cond eight n 0) buffer) ≡ one eight serial (take n buffer)
given_by true serial n buffer = refl
given_by false serial n buffer = refl

given_is : (r : Response) → given (in_numbers_of r) ≡ gave r
given_is r = given_by (eqb (answered r) 8) (get_or (values_of r.answer) 1 0) (get_or (values_of r.answer) 0 0) r.buffer

-- what is taken
taken_seen : (l : ℕ) (s : State) (es : List GatewayItem) → all_taken l (map seen_of (annotate step s es)) ≡ there.all_taken l s es
taken_seen l s [] = refl
taken_seen l s (event i k ∷ es) = taken_seen l (step s (event i k)).1 es
taken_seen l s (taking i b ∷ es) =
    ap₂ ◌++◌ (ap (λ (x : List Numbered). cond (eqb i l) x []) (given_is (step s (taking i b)).0)) (taken_seen l (step s (taking i b)).1 es)

pub taken_alike : (l : ℕ) (s : HostState) → InOrder s → (es : List GatewayItem) → all_taken l (annotate host_step s es) ≡ there.all_taken l (gateway_state s) es
taken_alike l s o es = ap (all_taken l) (runs_alike s o es) ∙ taken_seen l (gateway_state s) es

-- what is stored
stored_by_law : (l : ℕ) (s : HostState) → InOrder s → (e : GatewayItem) → stored_by l s e ≡ there.stored_on l (gateway_state s) e
stored_by_law l s o (event i (starts text)) = refl
stored_by_law l s o (event i (happens k)) =
    ap (λ (r : HostResponse). cond (eqb i l && eqb r.answered.number 4) (completed (gateway_state s) i k ∷ []) []) (one_call s o (came i k)).response
stored_by_law l s o (taking i b) = refl

pub stored_alike : (l : ℕ) (s : HostState) → InOrder s → (es : List GatewayItem) → all_stored l s es ≡ there.all_stored l (gateway_state s) es
stored_alike l s o [] = refl
stored_alike l s o (e ∷ es) =
    let c = one_call s o e in
    ap₂ ◌++◌ (stored_by_law l s o e) (stored_alike l (after s e) c.in_order es ∙ ap (λ (x : State). there.all_stored l x es) c.state)

-- and from a fresh start
module _ (r : Run) where
  pub taken_from_fresh : (l : ℕ) → all_taken l (history_of r) ≡ there.all_taken l (fresh (begun r)) r.calls
  taken_from_fresh l = ap (all_taken l) (history_is r) ∙ taken_seen l (fresh (begun r)) r.calls

  pub stored_from_fresh : (l : ℕ) → all_stored l (begin_of r) r.calls ≡ there.all_stored l (fresh (begun r)) r.calls
  stored_from_fresh l = stored_alike l (begin_of r) (fresh_in_order r) r.calls ∙ ap (λ (x : State). there.all_stored l x r.calls) (fresh_is r)

  pub nothing_lost : NothingLost r
  nothing_lost =
      let lost = gateway.nothing_lost (begun r) (begun_right r) r.calls r.may in
      record {
        entries = lost.entries;
        holds = at_end r (λ x. Held todays_shares x.gateway.ledger x.memory.journal lost.entries) lost.held;
        queue = λ l h.
            ap (numbered 0) (stored_from_fresh l) ∙ lost.queue l h
            ∙ ap (λ (x : List Numbered). x ++ waiting l lost.entries) (sym (taken_from_fresh l));
      }

  pub only_messages : OnlyMessages r
  only_messages =
      let all = messages.only_messages (begun r) (begun_right r) r.calls r.may in
      record {
        entries = all.entries;
        whole = at_end r (λ x. chain x.gateway.ledger x.memory.journal ≡ Some all.entries) all.whole;
        waits = all.waiting;
        taken = λ l h. subst (Every (λ (n : Numbered). is_message n.text ≡ true)) (sym (taken_from_fresh l)) (all.taken l h);
      }

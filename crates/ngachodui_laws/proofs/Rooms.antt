-- Room and acknowledgement, of a host's runs: what the gateway promises of the state that the host's numbers stand for, with the host's own answers.
-- Assumes nothing.
use Rattle.std.specs.Prelude.{None, Option, Some, ℕ}
use mathlib.Core.Path.{◌≡◌, refl, sym, ap, subst, ◌∙◌}
use mathlib.Core.Logic.{◌≢◌}
use mathlib.Core.Bool.{Bool, true, false, cond}
use mathlib.Core.List.{List, [], ◌∷◌}
use Prim.Native.Nat.{ℕ, ◌+◌, ◌≤◌, ◌<◌}
use native.Mathlib.Omega.{arith}
use borrow.Author.Tests.{eq-eqb, eqb-true}
use lib.Dec.{eqb}
use lib.ListN.{length, get_or}
use Rattle.memory.specs.Sizes.{lines}
use Rattle.memory.proofs.Tests.{clash}
use Rattle.header.specs.Header.{entry_size}
use Rattle.room.specs.Room.{share}
use Rattle.answers.specs.Paper.{ack, number_of, values_of, reply_of, first_out}
use Rattle.answers.specs.declared.Answer.{Answer}
use Rattle.answers.specs.declared.Answer.TheVariants.{Taken}
use Rattle.answers.proofs.Paper.{every_answer, paper_injective}
use Rattle.looking.specs.declared.Kind.{Kind}
use Rattle.serial.specs.Serial.{taking, final, Every}
use Rattle.promises.specs.Machine.{State, GatewayItem, came, step, store_of, May}
use Rattle.promises.specs.Runs.{fresh, answered, replied, Completes, Overfull, NoSpace, Space, Larger, used_by, used_with, most_alone}
use Rattle.promises.specs.Freed as there
use Rattle.promises.specs.Queue as queue
use Rattle.promises.proofs.Runs as runs
use Rattle.promises.proofs.Freed as freed
use Rattle.promises.proofs.Alone as alone
use Rattle.promises.proofs.Acknowledged as acknowledged
use Rattle.answers.specs.InNumbers.{reply_byte}
use Rattle.calls.specs.Calls.{HostState}
use Rattle.ngachodui_laws.specs.HostRuns.{gateway_state, InOrder, HostResponse, host_step, number_to, reply_to, after, Run, end_of}
use Rattle.ngachodui_laws.specs.Outcomes.{StoreKept}
use Rattle.ngachodui_laws.specs.Freed.{taken_then, Frees, Alone}
use Rattle.ngachodui_laws.specs.Inner.Hosting.{taken_value, in_numbers_of}
use Rattle.ngachodui_laws.proofs.HostRuns.{begun, begun_right, one_call, ends_alike, stays_in_order, end_in_order, end_is, at_end, host_always_sound}
use Rattle.ngachodui_laws.proofs.Determined.{store_kept}
use Rattle.ngachodui_laws.proofs.Queue.{stored_alike, stored_from_fresh}

-- the response of a host that stands for the gateway's state x
response_at : (s : HostState) → InOrder s → (x : State) → gateway_state s ≡ x → (e : GatewayItem) → (host_step s e).0 ≡ in_numbers_of (step x e).0
response_at s o x is e = (one_call s o e).response ∙ ap (λ (y : State). in_numbers_of (step y e).0) is

number_at : (s : HostState) → InOrder s → (x : State) → gateway_state s ≡ x → (e : GatewayItem) → answered (step x e).0 ≡ number_to s e
number_at s o x is e = ap (λ (r : HostResponse). r.answered.number) (sym (response_at s o x is e))

-- an answer with the number 8 has two values, so it is told by them
two_values : (vs : List ℕ) → length vs ≡ 2 → vs ≡ get_or vs 0 0 ∷ get_or vs 1 0 ∷ []
two_values [] h = absurd (omega arith)
two_values (a ∷ []) h = absurd (omega arith)
two_values (a ∷ b ∷ []) h = refl
two_values (a ∷ b ∷ c ∷ vs) h = absurd (omega arith)

if_so : (eight two : Bool) → cond eight two true ≡ true → eight ≡ true → two ≡ true
if_so true two h e = h
if_so false two h e = clash cc

eight_is : (a : Answer) → number_of a ≡ 8 → a ≡ Taken (get_or (values_of a) 0 0) (get_or (values_of a) 1 0)
unfolding reply_of
eight_is a h =
    let test : Answer → Bool = λ x. cond (eqb (number_of x) 8) (eqb (length (values_of x)) 2) true in
    let silent : Answer → Bool = λ x. cond (eqb (number_of x) 8) (eqb (reply_byte (first_out x)) 0) true in
    let two = if_so (eqb (number_of a) 8) (eqb (length (values_of a)) 2) (every_answer test (λ vs. refl) a) (eq-eqb (number_of a) 8 h) in
    let none = if_so (eqb (number_of a) 8) (eqb (reply_byte (first_out a)) 0) (every_answer silent (λ vs. refl) a) (eq-eqb (number_of a) 8 h) in
    paper_injective a (Taken (get_or (values_of a) 0 0) (get_or (values_of a) 1 0)) h (eqb-true (reply_byte (first_out a)) 0 none) (two_values (values_of a) (eqb-true (length (values_of a)) 2 two))

taken_value_law : (at : ℕ) (a : Answer) → number_of a ≡ 8 → taken_value at a ≡ get_or (values_of a) at 0
taken_value_law at a h = rw (eq-eqb (number_of a) 8 h)

-- a reply byte of ACK is the reply ACK
ack_is : (x : Option ℕ) → reply_byte x ≡ ack → x ≡ Some ack
ack_is None h = absurd (omega arith)
ack_is (Some b) h = ap Some h

module _ (r : Run) where
  abbrev s : HostState
  s = end_of r

  abbrev g : State
  g = final step (fresh (begun r)) r.calls

  number_is : (e : GatewayItem) → answered (step g e).0 ≡ number_to s e
  number_is e = number_at s (end_in_order r) g (end_is r) e

  module _ (i : ℕ) (h : i < lines) where
    module _ (k : Kind) where
      pub share_kept : number_to s (came i k) ≡ 31 → Overfull (gateway_state s) i k
      share_kept e = at_end r (λ x. Overfull x i k) (runs.share_kept (begun r) (begun_right r) r.calls r.may i k h (number_is (came i k) ∙ e))

      pub no_space : number_to s (came i k) ≡ 31 → NoSpace (gateway_state s) i k
      no_space e = runs.no_space (gateway_state s) (host_always_sound r) i k h (number_at s (end_in_order r) (gateway_state s) refl (came i k) ∙ e)

      pub space : number_to s (came i k) ≡ 4 → Space (gateway_state s) i k
      space e = runs.space (gateway_state s) (host_always_sound r) i k h (number_at s (end_in_order r) (gateway_state s) refl (came i k) ∙ e)

    -- one line alone
    module _ (only : Alone r i) (k : Kind) where
      alone_there : there.Alone (fresh (begun r)) r.calls i
      alone_there l q n = sym (stored_from_fresh r l) ∙ only l q n

      pub alone_refused : number_to s (came i k) ≡ 31 → Completes (gateway_state s) i k (λ n. most_alone < used_with (gateway_state s) i n)
      alone_refused e = at_end r (λ x. Completes x i k (λ n. most_alone < used_with x i n))
          (alone.alone_refused (begun r) (begun_right r) r.calls r.may i h alone_there k (number_is (came i k) ∙ e))

      pub alone_stored : number_to s (came i k) ≡ 4 → Completes (gateway_state s) i k (λ n. used_with (gateway_state s) i n ≤ most_alone)
      alone_stored e = at_end r (λ x. Completes x i k (λ n. used_with x i n ≤ most_alone))
          (alone.alone_stored (begun r) (begun_right r) r.calls r.may i h alone_there k (number_is (came i k) ∙ e))

    -- acknowledged is stored
    module _ (k : Kind) where
      pub acknowledged_stored : Completes (gateway_state s) i k (λ n. Unit {0}) → reply_to s (came i k) ≡ ack → number_to s (came i k) ≡ 4
      acknowledged_stored c e =
          let reply : replied (step g (came i k)).0 ≡ Some ack =
          ack_is (replied (step g (came i k)).0) (ap (λ (x : HostResponse). x.answered.reply) (sym (response_at s (end_in_order r) g (end_is r) (came i k))) ∙ e) in
          let complete : Completes g i k (λ n. Unit {0}) = subst (λ (x : State). Completes x i k (λ n. Unit {0})) (end_is r) c in
          sym (number_is (came i k)) ∙ acknowledged.acknowledged_stored (begun r) (begun_right r) r.calls r.may i k h complete reply

      pub only_4_stores : number_to s (came i k) ≢ 4 → StoreKept s (after s (came i k))
      only_4_stores n =
          let t = after s (came i k) in
          let c = one_call s (end_in_order r) (came i k) in
          let kept = acknowledged.only_4_stores (begun r) (begun_right r) r.calls r.may i k h (λ e. n (sym (number_is (came i k)) ∙ e)) in
          let store : store_of (gateway_state t) ≡ store_of (gateway_state s) =
          ap store_of c.state ∙ ap (λ (x : State). store_of (step x (came i k)).1) (end_is r) ∙ kept ∙ ap store_of (sym (end_is r)) in
          store_kept s t (end_in_order r) c.in_order store

  -- freed room
  module _ (l : ℕ) (h : l < lines) (b : List ℕ) (n : ℕ) (fs : List GatewayItem) (may : Every May fs) (frees : Frees s l b n fs) where
    abbrev taken : HostState
    taken = after s (taking l b)

    taken_in_order : InOrder taken
    taken_in_order = (one_call s (end_in_order r) (taking l b)).in_order

    taken_is : gateway_state taken ≡ (step g (taking l b)).1
    taken_is = (one_call s (end_in_order r) (taking l b)).state ∙ ap (λ (x : State). (step x (taking l b)).1) (end_is r)

    abbrev then : HostState
    then = taken_then s l b fs

    then_in_order : InOrder then
    then_in_order = stays_in_order taken taken_in_order fs

    then_is : gateway_state then ≡ there.taken_then g l b fs
    then_is = ends_alike taken taken_in_order fs ∙ ap (λ (x : State). final step x fs) taken_is

    frees_there : there.Frees g l b n fs
    frees_there =
        let a = (step g (taking l b)).0.answer in
        let seen = response_at s (end_in_order r) g (end_is r) (taking l b) in
        let eight : number_of a ≡ 8 = ap (λ (x : HostResponse). x.answered.number) (sym seen) ∙ frees.gives in
        let bytes : get_or (values_of a) 0 0 ≡ n = sym (taken_value_law 0 a eight) ∙ ap (λ (x : HostResponse). x.answered.length) (sym seen) ∙ frees.bytes in
        record {
          serial = get_or (values_of a) 1 0;
          gives = eight_is a eight ∙ ap (λ (x : ℕ). Taken x (get_or (values_of a) 1 0)) bytes;
          nothing = λ k q. sym (stored_alike k taken taken_in_order fs ∙ ap (λ (x : State). queue.all_stored k x fs) taken_is) ∙ frees.nothing k q;
        }

    pub freed_own : (k : Kind) → number_to then (came l k) ≡ 31 → Larger (gateway_state then) l k n
    freed_own k e = subst (λ (x : State). Larger x l k n) (sym then_is)
        (freed.freed_own (begun r) (begun_right r) r.calls r.may l h b n fs may frees_there k (number_at then then_in_order (there.taken_then g l b fs) then_is (came l k) ∙ e))

    pub freed_others : share + entry_size n ≤ used_by (gateway_state s) l → (i : ℕ) → i < lines → (k : Kind) → number_to then (came i k) ≡ 31 → Larger (gateway_state then) i k n
    freed_others beyond i q k e =
        let beyond-there = subst (λ (x : State). share + entry_size n ≤ used_by x l) (end_is r) beyond in
        subst (λ (x : State). Larger x i k n) (sym then_is)
        (freed.freed_others (begun r) (begun_right r) r.calls r.may l h b n fs may frees_there beyond-there i q k (number_at then then_in_order (there.taken_then g l b fs) then_is (came i k) ∙ e))

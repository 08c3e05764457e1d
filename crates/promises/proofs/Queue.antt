-- Nothing lost, nothing twice: of a run from fresh, the messages answered 4 on a line, with serials from 0, are those taken from it and then those that wait.
-- Assumes nothing.
use Rattle.std.specs.Result.{is_ok}
use Rattle.std.specs.Prelude.{Err, None, Ok, Option, Result, Some, ℕ}
use Rattle.journal.specs.declared.NotTaken.TheVariants.{Broken, BufferShort, NoLine, NothingWaiting, WrongSize}
use Rattle.journal.specs.declared.NotTaken.{NotTaken}
use mathlib.Core.Path.{◌≡◌, refl, sym, ap, ap₂, subst, ◌∙◌}
use mathlib.Core.Bool.{Bool, true, false, cond, ◌&&◌}
use mathlib.Core.List.{List, [], ◌∷◌, ◌++◌}
use Prim.Native.Nat.{ℕ, ◌<◌}
use native.Mathlib.Omega.{arith}
use lib.Dec.{eqb}
use lib.ListN.{length}
use Rattle.memory.specs.Sizes.{lines}
use Rattle.faults.specs.Message.{is_message}
use Rattle.faults.proofs.Messages.{message_some, message_short}
use Rattle.room.specs.Room.{todays_shares}
use Rattle.journal.specs.Storage.{grown, appended, AfterStoring, after_storing, store_of as store_entry}
use Rattle.journal.specs.Removal.{take_of as take_entry}
use Rattle.journal_laws.specs.Held.{Held}
use Rattle.journal_laws.specs.Runs.{Operation, put, get, State as Store, Numbered, numbered, waiting, given, next, after, goes_in, comes_out, all_in, all_out}
use Rattle.journal_laws.proofs.Cases.{store_fits}
use Rattle.journal_laws.proofs.Queue.{fresh_runs}
use Rattle.gateway.specs.Events.{take_of}
use Rattle.taking.specs.Taking.{took_answer}
use Rattle.looking.specs.declared.Kind.{Kind}
use Rattle.serial.specs.Serial.{event, taking, final, Every}
use Rattle.promises.specs.Machine.{State, response, GatewayItem, happens, starts, came, step, store_of, Sound, May}
use Rattle.promises.specs.Runs.{Beginning, Right, fresh, answered, has_space}
use Rattle.promises.specs.Inner.Came.{stored_in, answer, store, Settles, Came, quiet, stored, crowded, against}
use Rattle.promises.specs.Queue.{completed_in, completed, gave, stored_on, taken_on, all_stored, all_taken, NothingLost}
use Rattle.promises.proofs.Sound.{sound_intact}
use Rattle.promises.proofs.Starts.{start_store}
use Rattle.promises.proofs.Came.{comes_to, undecided_other, objected}
use Rattle.promises.proofs.Kept.{keeps, fresh_sound}

-- an operation of the journal, or none
abbrev pub next_by : Option Operation → Store → Store
next_by None j = j
next_by (Some o) j = next todays_shares j o

abbrev pub in_by : Option Operation → ℕ → Store → List (List ℕ)
in_by None l j = []
in_by (Some o) l j = goes_in todays_shares l j o

abbrev pub out_by : Option Operation → ℕ → Store → List Numbered
out_by None l j = []
out_by (Some o) l j = comes_out todays_shares l j o

-- what an item does to the journal is that operation
pub record Does (s : State) (e : GatewayItem) : Type 0 where
  pub operation : Option Operation
  pub store : store_of (step s e).1 ≡ next_by operation (store_of s)
  pub entering : (l : ℕ) → stored_on l s e ≡ in_by operation l (store_of s)
  pub leaving : (l : ℕ) → taken_on l s e ≡ out_by operation l (store_of s)

-- ---- takings

gave_given : (t : Result (ℕ × ℕ) NotTaken) (b : List ℕ) → gave (response (took_answer t) b) ≡ given t b
gave_given (Ok (n, serial)) b = refl
gave_given (Err NothingWaiting) b = refl
gave_given (Err BufferShort) b = refl
gave_given (Err Broken) b = refl
gave_given (Err NoLine) b = refl
gave_given (Err WrongSize) b = refl

taking_does : (s : State) (i : ℕ) (b : List ℕ) → Does s (taking i b)
unfolding take_of
taking_does s i b = record {
  operation = Some (get i b);
  store = refl;
  entering = λ l. refl;
  leaving = λ l. ap (λ (x : List Numbered). cond (eqb i l) x []) (gave_given (take_entry s.gateway.ledger i s.memory.journal b).taking.answer (take_entry s.gateway.ledger i s.memory.journal b).buffer);
}

-- ---- events

not_stored : (b : Bool) (t : List ℕ) → cond (b && false) (t ∷ []) [] ≡ []
not_stored true t = refl
not_stored false t = refl

module _ (s : State) (w : Sound s) (i : ℕ) (k : Kind) (h : i < lines) where
  -- what is not answered 4 and leaves the store is no operation of the journal
  no_operation : eqb (answered (answer s i k)) 4 ≡ false → store s i k ≡ store_of s → Does s (came i k)
  no_operation other kept = record { operation = None; store = kept; entering = λ l. rw other (not_stored (eqb i l) (completed s i k)); leaving = λ l. refl }

  -- a message with room for it is stored there: the journal's answer is 4 too
  module _ (t : List ℕ) (m : is_message t ≡ true) (room : has_space s i (length t) ≡ true) (x : Settles s i k t (λ n. n ≡ 4) (stored_in i t (store_of s))) where
    in_journal : store_entry s.gateway.ledger todays_shares i t s.memory.journal ≡ after_storing (grown s.gateway.ledger i (length t)) (Ok tt) (appended s.gateway.ledger i t s.memory.journal)
    in_journal = (store_fits todays_shares s.gateway.ledger i t s.memory.journal w.entries w.held h (message_some _ t m) (message_short _ t m) room).is

    stores : Does s (came i k)
    stores = record {
      operation = Some (put i t);
      store = x.left ∙ sym (ap (λ (r : AfterStoring). record { ledger = r.storing.ledger; journal = r.journal }) in_journal);
      entering = λ l.
          ap₂ (λ (n : ℕ) (o : Option (List ℕ)). cond (eqb i l && eqb n 4) (completed_in o ∷ []) []) x.number x.complete
          ∙ sym (ap (λ (r : AfterStoring). cond (eqb i l && is_ok r.storing.answer) (t ∷ []) []) in_journal);
      leaving = λ l. refl;
    }

  event_does : Came s i k → Does s (came i k)
  event_does (quiet x) = no_operation (undecided_other (answer s i k) x.undecided).0 x.kept
  event_does (stored t m room x) = stores t m room x
  event_does (crowded t m room x) = no_operation (ap (λ (n : ℕ). eqb n 4) x.number) x.left
  event_does (against t m x) = no_operation (objected t (answered (answer s i k)) x.number).not_4 x.left

pub does : (s : State) (e : GatewayItem) → Sound s → May e → Does s e
does s (event i (happens k)) w m = event_does s w i k m (comes_to s (sound_intact s w) i k m)
does s (event i (starts text)) w m = record { operation = None; store = start_store s (sound_intact s w) i text m; entering = λ l. refl; leaving = λ l. refl }
does s (taking i b) w m = taking_does s i b

-- ---- runs

-- a run of the gateway is a run of the journal
pub record Runs (s : State) (es : List GatewayItem) : Type 0 where
  pub operations : List Operation
  pub store : store_of (final step s es) ≡ after todays_shares (store_of s) operations
  pub entering : (l : ℕ) → all_stored l s es ≡ all_in todays_shares l (store_of s) operations
  pub leaving : (l : ℕ) → all_taken l s es ≡ all_out todays_shares l (store_of s) operations

runs_onto : (s : State) (e : GatewayItem) (es : List GatewayItem) (o : Option Operation) → store_of (step s e).1 ≡ next_by o (store_of s)
    → ((l : ℕ) → stored_on l s e ≡ in_by o l (store_of s)) → ((l : ℕ) → taken_on l s e ≡ out_by o l (store_of s)) → Runs (step s e).1 es → Runs s (e ∷ es)
runs_onto s e es None store entering leaving r = record {
  operations = r.operations;
  store = r.store ∙ ap (λ (j : Store). after todays_shares j r.operations) store;
  entering = λ l. ap₂ ◌++◌ (entering l) (r.entering l ∙ ap (λ (j : Store). all_in todays_shares l j r.operations) store);
  leaving = λ l. ap₂ ◌++◌ (leaving l) (r.leaving l ∙ ap (λ (j : Store). all_out todays_shares l j r.operations) store);
}
runs_onto s e es (Some o) store entering leaving r = record {
  operations = o ∷ r.operations;
  store = r.store ∙ ap (λ (j : Store). after todays_shares j r.operations) store;
  entering = λ l. ap₂ ◌++◌ (entering l) (r.entering l ∙ ap (λ (j : Store). all_in todays_shares l j r.operations) store);
  leaving = λ l. ap₂ ◌++◌ (leaving l) (r.leaving l ∙ ap (λ (j : Store). all_out todays_shares l j r.operations) store);
}

pub runs : (s : State) (es : List GatewayItem) → Sound s → Every May es → Runs s es
runs s [] w o = record { operations = []; store = refl; entering = λ l. refl; leaving = λ l. refl }
runs s (e ∷ es) w o =
    let d = does s e w o.0 in
    runs_onto s e es d.operation d.store d.entering d.leaving (runs (step s e).1 es (keeps s e w o.0) o.1)

pub nothing_lost : (began : Beginning) → Right began → (es : List GatewayItem) → Every May es → NothingLost began es
nothing_lost began right es may =
    let r = runs (fresh began) es (fresh_sound began right) may in
    let q = fresh_runs todays_shares r.operations began.memory.journal right.sizes.journal (omega arith) in
    record {
      entries = q.es;
      held = subst (λ (j : Store). Held todays_shares j.ledger j.journal q.es) (sym r.store) q.held;
      queue = λ l h. ap (numbered 0) (r.entering l) ∙ q.queue l h ∙ ap (λ (x : List Numbered). x ++ waiting l q.es) (sym (r.leaving l));
    }

-- Demand 3, of the gateway: events of the eight lines and takings in any order, from fresh, told stretch by stretch, have the same answers and the same final state.
-- Assumes nothing.
use mathlib.Core.Path.{◌≡◌, refl, sym, ap, ◌∙◌}
use mathlib.Core.Logic.{◌≢◌}
use mathlib.Core.Bool.{Bool, false}
use mathlib.Core.List.{List}
use Prim.Native.Nat.{ℕ, ◌<◌}
use lib.Seq.{ext_get_or}
use Rattle.memory.specs.Sizes.{lines, message_limit, frame_part}
use Rattle.memory.proofs.Lines.{equal_parts}
use Rattle.memory.proofs.Tests.{never_both}
use Rattle.strips.specs.Readers.{fresh_memo}
use Rattle.gateway.specs.Events.{no_record, take_of}
use Rattle.looking.specs.declared.Kind.{Kind}
use Rattle.serial.specs.Serial.{event, taking, annotate, serialize, count, Every, OrderOf, GoesAlike}
use Rattle.serial.specs.Inner.Machine.{Lined, NothingElse}
use Rattle.serial.specs.Kept.{Rearranged}
use Rattle.serial.proofs.Demand as serial
use Rattle.promises.specs.Machine.{State, Response, Coming, happens, starts, GatewayItem, came, step, decides, Parts, parts_of, store_of, Sound, May}
use Rattle.promises.specs.Inner.ByParts.{on_event, on_coming, on_taking}
use Rattle.promises.specs.Runs.{Beginning, Right, fresh}
use Rattle.promises.specs.Sending.{Intact}
use Rattle.promises.specs.Inner.Came.{Came, quiet as passing, stored, crowded, against}
use Rattle.promises.proofs.Sound.{sound_intact, event_answer, event_own, event_others, event_journal}
use Rattle.promises.proofs.Starts.{start_answer_law, start_own, start_others, start_store}
use Rattle.promises.proofs.Came.{comes_to}
use Rattle.promises.proofs.Kept.{keeps, fresh_sound}

-- an event that does not decide leaves the store, and would go the same at the store of any other state
pub quiet : (s u : State) (w : Sound s) (i : ℕ) (k : Kind) (h : i < lines) → decides (on_event i (parts_of s i) k (store_of s)).0 ≡ false
    → on_event i (parts_of s i) k (store_of u) ≡ ((on_event i (parts_of s i) k (store_of s)).0, (on_event i (parts_of s i) k (store_of s)).1, store_of u)
quiet s u w i k h e = by_case (comes_to s (sound_intact s w) i k h)
  where
    undecided : decides (step s (came i k)).0 ≡ false
    undecided = ap decides (event_answer s (sound_intact s w) i k h) ∙ e

    by_case : Came s i k → on_event i (parts_of s i) k (store_of u) ≡ ((on_event i (parts_of s i) k (store_of s)).0, (on_event i (parts_of s i) k (store_of s)).1, store_of u)
    by_case (passing x) = x.anywhere (store_of u)
    by_case (stored t m room x) = never_both (decides (step s (came i k)).0) x.decided undecided
    by_case (crowded t m room x) = never_both (decides (step s (came i k)).0) x.decided undecided
    by_case (against t m x) = never_both (decides (step s (came i k)).0) x.decided undecided

-- what comes on a line, an event or a start, is told by its parts and the store, and leaves the other lines
module _ (s : State) (w : Intact s) (i : ℕ) (h : i < lines) where
  coming_answer : (k : Coming) → (step s (event i k)).0 ≡ (on_coming i (parts_of s i) k (store_of s)).0
  coming_answer (happens k) = event_answer s w i k h
  coming_answer (starts text) = start_answer_law s w i text h

  coming_own : (k : Coming) → parts_of (step s (event i k)).1 i ≡ (on_coming i (parts_of s i) k (store_of s)).1
  coming_own (happens k) = event_own s w i k h
  coming_own (starts text) = start_own s w i text h

  pub coming_others : (k : Coming) (l : ℕ) → l ≢ i → parts_of (step s (event i k)).1 l ≡ parts_of s l
  coming_others (happens k) l n = event_others s w i k h l n
  coming_others (starts text) l n = start_others s w i text h l n

  coming_store : (k : Coming) → store_of (step s (event i k)).1 ≡ (on_coming i (parts_of s i) k (store_of s)).2
  coming_store (happens k) = event_journal s w i k h
  coming_store (starts text) = start_store s w i text h

-- a start leaves the store, whatever it is
coming_quiet : (s u : State) (w : Sound s) (i : ℕ) (h : i < lines) (k : Coming) → decides (on_coming i (parts_of s i) k (store_of s)).0 ≡ false
    → on_coming i (parts_of s i) k (store_of u) ≡ ((on_coming i (parts_of s i) k (store_of s)).0, (on_coming i (parts_of s i) k (store_of s)).1, store_of u)
coming_quiet s u w i h (happens k) e = quiet s u w i k h e
coming_quiet s u w i h (starts text) e = refl

-- a taking is told by the store alone
taking_answer : (s : State) (i : ℕ) (b : List ℕ) → (step s (taking i b)).0 ≡ (on_taking i b (store_of s)).0
unfolding take_of
taking_answer s i b = refl

taking_parts : (s : State) (i : ℕ) (b : List ℕ) (l : ℕ) → parts_of (step s (taking i b)).1 l ≡ parts_of s l
unfolding take_of
taking_parts s i b l = refl

taking_store : (s : State) (i : ℕ) (b : List ℕ) → store_of (step s (taking i b)).1 ≡ (on_taking i b (store_of s)).1
unfolding take_of
taking_store s i b = refl

-- the gateway is a machine with lines
pub lined : Lined parts_of store_of on_coming on_taking decides lines step Sound May
lined = record {
  keeps = keeps;
  on_line = λ i k m. m;
  event_answer = λ s i k w m. coming_answer s (sound_intact s w) i m k;
  event_own = λ s i k w m. coming_own s (sound_intact s w) i m k;
  event_others = λ s i k w m l n. coming_others s (sound_intact s w) i m k l n;
  event_journal = λ s i k w m. coming_store s (sound_intact s w) i m k;
  taking_answer = λ s i b w m. taking_answer s i b;
  taking_lines = λ s i b w m l. taking_parts s i b l;
  taking_journal = λ s i b w m. taking_store s i b;
  quiet = λ s i k w m e u wu. coming_quiet s u w i m k e;
}

-- records, what is kept of readers, ledger and every byte of the three memories: a sound state has nothing else
pub nothing_else : NothingElse parts_of store_of Sound
nothing_else s t w v same =
    let records = ext_get_or no_record s.gateway.lines t.gateway.lines (w.as_many ∙ sym v.as_many) (λ i h. ap (λ (p : Parts). p.line) (same.each i)) in
    let memos = ext_get_or fresh_memo s.gateway.memos t.gateway.memos (w.as_many_memos ∙ sym v.as_many_memos) (λ i h. ap (λ (p : Parts). p.memo) (same.each i)) in
    let texts = equal_parts message_limit lines s.memory.unfinished t.memory.unfinished w.texts v.texts (λ i h. ap (λ (p : Parts). p.texts) (same.each i)) in
    let frames = equal_parts frame_part lines s.memory.frames t.memory.frames w.frames v.frames (λ i h. ap (λ (p : Parts). p.frames) (same.each i)) in
    λ z. record {
      gateway = record { lines = records z; memos = memos z; ledger = (same.journal z).ledger };
      memory = record { journal = (same.journal z).journal; unfinished = texts z; frames = frames z };
    }

-- Demand 3. Memory of the right sizes with any bytes, a fresh gateway, any events on lines 0 to 7 and any takings.
module _ (began : Beginning) (right : Right began) (es : List GatewayItem) (may : Every May es) (order : List ℕ) (each : OrderOf lines order) where
  abbrev run : List (GatewayItem × Response)
  run = annotate step (fresh began) es

  -- every history that the demand's words allow has the run's answers and its final state
  pub stretches : (zs : List (GatewayItem × Response)) → Rearranged decides lines order run zs → GoesAlike step (fresh began) es zs
  stretches = serial.demand _ _ _ _ _ _ _ _ _ lined order each (fresh began) es (fresh_sound began right) may nothing_else

  -- there is one, and every item with its answer stands in it as often as in the run
  pub stretches_met : Rearranged decides lines order run (serialize decides order run)
  stretches_met = serial.demand_met _ _ _ _ _ _ _ _ _ lined order each (fresh began) es (fresh_sound began right) may

  pub stretches_all : (zs : List (GatewayItem × Response)) → Rearranged decides lines order run zs → (p : GatewayItem × Response → Bool) → count p zs ≡ count p run
  stretches_all = serial.nothing_lost _ _ _ _ _ _ _ _ _ lined order each (fresh began) es (fresh_sound began right) may

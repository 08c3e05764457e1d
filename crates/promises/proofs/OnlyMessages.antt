-- Only messages are stored, so only messages wait and are taken, and reading what was taken is never refused.
-- Assumes nothing.
use Rattle.std.specs.Prelude.{Err, Ok, Option}
use Rattle.faults.specs.declared.Refusal.TheVariants.{Faulty, Malformed, NotFitting}
use mathlib.Core.Path.{◌≡◌, refl, ap, subst, ◌∙◌}
use mathlib.Core.Bool.{Bool, true, false, cond, ◌&&◌}
use mathlib.Core.List.{List, [], ◌∷◌, ◌++◌}
use Prim.Native.Nat.{ℕ, suc, ◌<◌}
use borrow.Author.Tests.{eq-eqb, eqb-true}
use lib.Dec.{eqb}
use lib.ListN.{length, take}
use Rattle.memory.specs.Sizes.{lines}
use Rattle.memory.specs.Tests.{unless}
use Rattle.memory.proofs.Tests.{clash, and_right}
use Rattle.records.specs.Records.{records}
use Rattle.faults.specs.Message.{is_message}
use Rattle.owner.specs.Reading.{room_for, reading_of}
use Rattle.answers.specs.declared.Fault.{Fault}
use Rattle.header.specs.Entry.{Entry}
use Rattle.journal.proofs.Wholes.{whole_facts}
use Rattle.journal.proofs.Inside.{All, all_sound}
use Rattle.journal_laws.specs.Runs.{Numbered, numbered, only, texts, waiting}
use Rattle.looking.specs.declared.Kind.{Kind}
use Rattle.serial.specs.Serial.{event, taking, final, Every}
use Rattle.promises.specs.Machine.{State, GatewayItem, happens, starts, came, step, Sound, May}
use Rattle.promises.specs.Runs.{Beginning, Right, fresh, answered}
use Rattle.promises.specs.Queue.{completed_in, completed, stored_on, all_stored, all_taken}
use Rattle.promises.specs.OnlyMessages.{IsMessage, OnlyMessages, Readable}
use Rattle.promises.proofs.Every.{every_both, every_left, every_right, every_so}
use Rattle.promises.proofs.Kept.{keeps, fresh_sound}
use Rattle.promises.proofs.Runs.{space}
use Rattle.promises.proofs.Exactly.{decided_exactly}
use Rattle.promises.proofs.Queue.{nothing_lost}

abbrev OfNumbered : Numbered → Type 0
OfNumbered n = IsMessage n.text

abbrev OfEntry : Entry → Type 0
OfEntry e = IsMessage e.text

-- ---- what is stored

-- an event answered 4 completes a message
stored_message : (s : State) → Sound s → (i : ℕ) → i < lines → (k : Kind) → answered (step s (came i k)).0 ≡ 4 → IsMessage (completed s i k)
stored_message s w i line k e =
    let x = space s w i k line e in
    ap (λ (o : Option (List ℕ)). is_message (completed_in o)) x.complete ∙ ((decided_exactly s w i line k x.text x.complete).stored.0 e).0

stored_on_law : (l : ℕ) (s : State) (e : GatewayItem) → Sound s → May e → Every IsMessage (stored_on l s e)
stored_on_law l s (event i (happens k)) w m = by_test_law (eqb i l && eqb (answered (step s (came i k)).0) 4) refl
  where
    by_test_law : (b : Bool) → eqb i l && eqb (answered (step s (came i k)).0) 4 ≡ b → Every IsMessage (cond b (completed s i k ∷ []) [])
    by_test_law true q = (stored_message s w i m k (eqb-true _ _ (and_right (eqb i l) (eqb (answered (step s (came i k)).0) 4) q)), tt)
    by_test_law false q = tt
stored_on_law l s (event i (starts text)) w m = tt
stored_on_law l s (taking i b) w m = tt

all_stored_law : (l : ℕ) (s : State) (es : List GatewayItem) → Sound s → Every May es → Every IsMessage (all_stored l s es)
all_stored_law l s [] w may = tt
all_stored_law l s (e ∷ es) w may =
    every_both IsMessage (stored_on l s e) (all_stored l (step s e).1 es) (stored_on_law l s e w may.0)
    (all_stored_law l (step s e).1 es (keeps s e w may.0) may.1)

with_serials : (n : ℕ) (ts : List (List ℕ)) → Every IsMessage ts → Every OfNumbered (numbered n ts)
with_serials n [] p = tt
with_serials n (t ∷ ts) p = (p.0, with_serials (suc n) ts p.1)

-- ---- what waits: each entry stands among those of its line

module _ (e : Entry) (es : List Entry) where
  here : (b : Bool) (xs : List Entry) → b ≡ true → Every OfNumbered (texts (cond b (e ∷ xs) xs)) → OfEntry e
  here true xs q p = p.0
  here false xs q p = clash cc

  later : (b : Bool) (xs : List Entry) → Every OfNumbered (texts (cond b (e ∷ xs) xs)) → Every OfNumbered (texts xs)
  later true xs p = p.1
  later false xs p = p

each_entry : (es : List Entry) → All es → ((l : ℕ) → l < lines → Every OfNumbered (waiting l es)) → Every OfEntry es
each_entry [] all p = tt
each_entry (e ∷ es) all p = (
  here e es (eqb e.line e.line) (only e.line es) (eq-eqb e.line e.line refl) (p e.line all.0.line),
  each_entry es all.1 (λ l h. later e es (eqb e.line l) (only l es) (p l h)),
)

module _ (began : Beginning) (right : Right began) (es : List GatewayItem) (may : Every May es) where
  pub only_messages : OnlyMessages began es
  only_messages =
      let lost = nothing_lost began right es may in
      let s = final step (fresh began) es in
      let d = s.gateway.ledger in
      let rows : (l : ℕ) → l < lines → Every OfNumbered (all_taken l (fresh began) es ++ waiting l lost.entries) =
      λ l h. subst (Every OfNumbered) (lost.queue l h) (with_serials 0 (all_stored l (fresh began) es) (all_stored_law l (fresh began) es (fresh_sound began right) may)) in
      record {
        entries = lost.entries;
        whole = lost.held.whole;
        waiting =
            each_entry lost.entries (all_sound lost.entries (take d.in_use s.memory.journal) (whole_facts d s.memory.journal lost.entries lost.held.whole).there)
            (λ l h. every_right OfNumbered (all_taken l (fresh began) es) (waiting l lost.entries) (rows l h));
        taken = λ l h. every_left OfNumbered (all_taken l (fresh began) es) (waiting l lost.entries) (rows l h);
      }

-- ---- reading it

not_malformed : (b : Bool) (n : ℕ) → unless b (Err NotFitting) (Ok n) ≡ Err Malformed → ⊥
not_malformed true n e = clash cc
not_malformed false n e = clash cc

not_faulty : (b : Bool) (n : ℕ) (f : Fault) (place : ℕ) → unless b (Err NotFitting) (Ok n) ≡ Err (Faulty f place) → ⊥
not_faulty true n f place e = clash cc
not_faulty false n f place e = clash cc

readable : (text : List ℕ) → IsMessage text → Readable text
unfolding reading_of
readable text m = record {
  never_46 = λ types offsets lengths owners e. not_malformed (room_for (length (records text)) types offsets lengths owners) (length (records text)) (rw m at e);
  never_faulty = λ f place types offsets lengths owners e. not_faulty (room_for (length (records text)) types offsets lengths owners) (length (records text)) f place (rw m at e);
  read = λ types offsets lengths owners room. rw (m, room);
}

-- reading a text that was taken is never answered 46 or a fault
pub read_never_refused : (began : Beginning) → Right began → (es : List GatewayItem) → Every May es → (l : ℕ) → l < lines → Every (λ (n : Numbered). Readable n.text) (all_taken l (fresh began) es)
read_never_refused began right es may l line =
    every_so OfNumbered (λ (n : Numbered). Readable n.text) (λ n p. readable n.text p) (all_taken l (fresh began) es) ((only_messages began right es may).taken l line)

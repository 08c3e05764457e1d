-- 30 is for a byte that is not allowed, and no text of a run from fresh has one: no item of it is answered 30.
-- Assumes nothing.
use Rattle.std.specs.Prelude.{Err, Ok, Result, ℕ}
use Rattle.journal.specs.declared.NotTaken.TheVariants.{Broken, BufferShort, NoLine, NothingWaiting, WrongSize}
use Rattle.journal.specs.declared.NotTaken.{NotTaken}
use Rattle.faults.specs.declared.Flaw.TheVariants.{Faulty}
use Rattle.faults.specs.declared.Flaw.{Flaw}
use mathlib.Core.Path.{◌≡◌, refl, ap, ◌∙◌}
use mathlib.Core.Bool.{false}
use mathlib.Core.List.{List, [], ◌∷◌}
use Prim.Native.Nat.{ℕ, ◌<◌}
use borrow.Author.Tests.{ne_eqb}
use lib.Dec.{eqb}
use Rattle.memory.specs.Sizes.{lines}
use Rattle.faults.specs.Faults.{fault_of}
use Rattle.answers.specs.Paper.{fault_number, number_of}
use Rattle.answers.specs.declared.Fault.{Fault}
use Rattle.answers.proofs.Paper.{fault_other}
use Rattle.deciding.specs.Decisions.{objection, objection_to}
use Rattle.journal.specs.Removal.{take_of as take_entry}
use Rattle.taking.specs.Taking.{took_answer}
use Rattle.gateway.specs.Events.{take_of}
use Rattle.looking.specs.declared.Kind.{Kind}
use Rattle.serial.specs.Serial.{event, taking, annotate, Every}
use Rattle.promises.specs.Machine.{State, Response, GatewayItem, happens, starts, step, Sound, May}
use Rattle.promises.specs.Runs.{Beginning, Right, fresh, answered}
use Rattle.promises.specs.Clean.{Clean}
use Rattle.promises.specs.Inner.Came.{answer, Came, quiet, stored, crowded, against}
use Rattle.promises.proofs.Sound.{sound_intact}
use Rattle.promises.proofs.Starts.{start_mild, start_answer_law}
use Rattle.promises.proofs.Came.{comes_to, undecided_not_30}
use Rattle.promises.proofs.Kept.{keeps, fresh_sound}
use Rattle.promises.proofs.Clean.{offered_faulty, keeps_clean, fresh_clean}

objection_not_30 : (t : List ℕ) (f : Fault) (place : ℕ) → fault_of t ≡ Err (Faulty f place) → eqb (number_of (objection_to t)) 30 ≡ false
unfolding objection_to
objection_not_30 t f place e = ap (λ (x : Result (Unit {0}) Flaw). eqb (number_of (objection x)) 30) e ∙ ne_eqb (fault_number f) 30 (fault_other f 30 refl)

-- an event: what it completes is of allowed bytes
came_not_30 : (s : State) → Clean s → (i : ℕ) → i < lines → (k : Kind) → Came s i k → eqb (answered (answer s i k)) 30 ≡ false
came_not_30 s c i line k (quiet x) = undecided_not_30 (answer s i k) x.undecided
came_not_30 s c i line k (stored t m room x) = ap (λ (n : ℕ). eqb n 30) x.number
came_not_30 s c i line k (crowded t m room x) = ap (λ (n : ℕ). eqb n 30) x.number
came_not_30 s c i line k (against t m x) =
    let wrong = offered_faulty s i k t x.complete c line m in
    ap (λ (n : ℕ). eqb n 30) x.number ∙ objection_not_30 t wrong.kind wrong.place wrong.found

-- a taking
took_not_30 : (t : Result (ℕ × ℕ) NotTaken) → eqb (number_of (took_answer t)) 30 ≡ false
took_not_30 (Ok (n, serial)) = refl
took_not_30 (Err NothingWaiting) = refl
took_not_30 (Err BufferShort) = refl
took_not_30 (Err Broken) = refl
took_not_30 (Err NoLine) = refl
took_not_30 (Err WrongSize) = refl

item_not_30 : (s : State) → Sound s → Clean s → (e : GatewayItem) → May e → eqb (answered (step s e).0) 30 ≡ false
unfolding take_of
item_not_30 s w c (event i (happens k)) m = came_not_30 s c i m k (comes_to s (sound_intact s w) i k m)
item_not_30 s w c (event i (starts text)) m =
    let v = sound_intact s w in
    ap (λ (r : Response). eqb (answered r) 30) (start_answer_law s v i text m) ∙ (start_mild s v i text m).not_30
item_not_30 s w c (taking i b) m = took_not_30 (take_entry s.gateway.ledger i s.memory.journal b).taking.answer

stays_not_30 : (s : State) (es : List GatewayItem) → Sound s → Clean s → Every May es → Every (λ x. eqb (answered x.1) 30 ≡ false) (annotate step s es)
stays_not_30 s [] w c o = tt
stays_not_30 s (e ∷ es) w c o = (item_not_30 s w c e o.0, stays_not_30 (step s e).1 es (keeps s e w o.0) (keeps_clean s e w c o.0) o.1)

pub never_30 : (began : Beginning) → Right began → (es : List GatewayItem) → Every May es → Every (λ x. eqb (answered x.1) 30 ≡ false) (annotate step (fresh began) es)
never_30 began right es may = stays_not_30 (fresh began) es (fresh_sound began right) (fresh_clean began right) may

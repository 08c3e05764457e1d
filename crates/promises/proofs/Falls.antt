-- Where nothing is stored, no used count grows.
-- Assumes nothing.
use Rattle.std.specs.Result.{is_ok}
use Rattle.std.specs.Prelude.{None, Option, Some}
use mathlib.Core.Path.{◌≡◌, refl, sym, ap, subst, ◌∙◌}
use mathlib.Core.Logic.{◌⊎◌, inl, inr}
use mathlib.Core.Bool.{Bool, true, cond, ◌&&◌}
use mathlib.Core.List.{List, [], ◌∷◌, ◌++◌}
use Prim.Native.Nat.{ℕ, ◌-◌, ◌≤◌, ◌<◌}
use native.Mathlib.Nat.{le_trans}
use native.Mathlib.Decide.{ℕ_discrete}
use native.Mathlib.Omega.{arith}
use borrow.Author.Tests.{eq-eqb}
use lib.Dec.{eqb}
use lib.ListN.{length, get_or, set}
use lib.Seq.{get_or-set_other}
use Rattle.memory.specs.Sizes.{lines}
use Rattle.header.specs.Entry.{Entry, size}
use Rattle.room.specs.Room.{todays_shares}
use Rattle.journal.specs.Storage.{AfterStoring}
use Rattle.journal.specs.Removal.{AfterTaking, shrunk}
use Rattle.journal_laws.specs.Held.{Held}
use Rattle.journal_laws.specs.Runs.{Operation, put, get, State as Store, next, goes_in}
use Rattle.journal_laws.proofs.Cases.{Stores, Stays, Gives, Keeps, store_cases, take_cases}
use Rattle.room.proofs.Totals.{lowered_own}
use Rattle.serial.specs.Serial.{final, Every}
use Rattle.promises.specs.Machine.{State, GatewayItem, step, store_of, Sound, May}
use Rattle.promises.specs.Runs.{used_by}
use Rattle.promises.specs.Queue.{stored_on, all_stored}
use Rattle.promises.proofs.Kept.{keeps}
use Rattle.promises.proofs.Queue.{does, next_by, in_by}

abbrev used : Store → ℕ → ℕ
used j l = get_or j.ledger.used l 0

append_none : (xs ys : List (List ℕ)) → xs ++ ys ≡ [] → (xs ≡ []) × (ys ≡ [])
append_none [] ys e = (refl, e)
append_none (x ∷ xs) ys e = absurd (omega (arith, ap (λ (zs : List (List ℕ)). length zs) e))

lowered : (u : List ℕ) (i n l : ℕ) → length u ≡ lines → l < lines → get_or (set u i (get_or u i 0 - n)) l 0 ≤ get_or u l 0
lowered u i n l long line = elim (ℕ_discrete l i) [
  | yes x ↦ subst (λ (k : ℕ). get_or (set u k (get_or u k 0 - n)) l 0 ≤ get_or u l 0) x (omega (arith, lowered_own u l n long line))
  | no x ↦ omega (arith, get_or-set_other u i l (get_or u i 0 - n) 0 x)
]

module _ (j : Store) (es : List Entry) (held : Held todays_shares j.ledger j.journal es) (l : ℕ) (line : l < lines) where
  put_falls : (i : ℕ) (t : List ℕ) → Stores todays_shares j.ledger i t j.journal es ⊎ Stays todays_shares j.ledger i t j.journal
      → ((k : ℕ) → k < lines → goes_in todays_shares k j (put i t) ≡ []) → used (next todays_shares j (put i t)) l ≤ used j l
  put_falls i t (inl p) nothing =
      let went : t ∷ [] ≡ [] =
      sym (ap (λ (b : Bool). cond (b && true) (t ∷ []) []) (eq-eqb i i refl)) ∙ sym (ap (λ (x : AfterStoring). cond (eqb i i && is_ok x.storing.answer) (t ∷ []) []) p.is)
      ∙ nothing i p.line in
      absurd (omega (arith, ap (λ (zs : List (List ℕ)). length zs) went))
  put_falls i t (inr p) nothing = subst (λ (x : AfterStoring). get_or x.storing.ledger.used l 0 ≤ used j l) (sym p.is) (omega arith)

  get_falls : (i : ℕ) (b : List ℕ) → Gives todays_shares j.ledger i j.journal b es ⊎ Keeps j.ledger i j.journal b → used (next todays_shares j (get i b)) l ≤ used j l
  unfolding shrunk
  get_falls i b (inl p) =
      subst (λ (x : AfterTaking). get_or x.taking.ledger.used l 0 ≤ used j l) (sym p.is) (lowered j.ledger.used i (size p.e) l held.lines_used line)
  get_falls i b (inr p) = subst (λ (x : AfterTaking). get_or x.taking.ledger.used l 0 ≤ used j l) (sym p.is) (omega arith)

  falls : (o : Option Operation) → ((k : ℕ) → k < lines → in_by o k j ≡ []) → used (next_by o j) l ≤ used j l
  falls None nothing = omega arith
  falls (Some (put i t)) nothing = put_falls i t (store_cases todays_shares j.ledger i t j.journal es held) nothing
  falls (Some (get i b)) nothing = get_falls i b (take_cases todays_shares j.ledger i j.journal b es held)

one_falls : (s : State) (e : GatewayItem) (w : Sound s) → May e → ((k : ℕ) → k < lines → stored_on k s e ≡ []) → (l : ℕ) → l < lines → used_by (step s e).1 l ≤ used_by s l
one_falls s e w may nothing l line =
    let d = does s e w may in
    let least = falls (store_of s) w.entries w.held l line d.operation (λ k q. sym (d.entering k) ∙ nothing k q) in
    subst (λ (j : Store). used j l ≤ used_by s l) (sym d.store) least

pub used_falls : (s : State) (es : List GatewayItem) → Sound s → Every May es → ((k : ℕ) → k < lines → all_stored k s es ≡ []) → (l : ℕ) → l < lines → used_by (final step s es) l ≤ used_by s l
used_falls s [] w may nothing l line = omega arith
used_falls s (e ∷ es) w may nothing l line =
    let s₁ = (step s e).1 in
    let first = one_falls s e w may.0 (λ k q. (append_none (stored_on k s e) (all_stored k s₁ es) (nothing k q)).0) l line in
    let rest = used_falls s₁ es (keeps s e w may.0) may.1 (λ k q. (append_none (stored_on k s e) (all_stored k s₁ es) (nothing k q)).1) l line in
    le_trans rest first

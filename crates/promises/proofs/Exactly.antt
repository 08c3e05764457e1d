-- A complete text is answered exactly as it is: 4 for a message with room, 31 for a message without, and for what is no message its first fault, or 30.
-- Assumes nothing.
use Rattle.std.specs.Prelude.{Err, None, Ok, Result, Some}
use Rattle.faults.specs.declared.Flaw.TheVariants.{Faulty, NotText}
use Rattle.faults.specs.declared.Flaw.{Flaw}
use mathlib.Core.Path.{◌≡◌, refl, sym, ap, subst, ◌∙◌}
use mathlib.Core.Bool.{true, false}
use mathlib.Core.List.{List}
use Prim.Native.Nat.{ℕ, ◌<◌}
use native.Mathlib.Omega.{arith}
use borrow.Author.Tests.{eq-eqb}
use lib.Dec.{eqb}
use lib.ListN.{length}
use Rattle.memory.specs.Sizes.{lines}
use Rattle.memory.proofs.Tests.{clash, never_both}
use Rattle.faults.specs.Message.{is_message}
use Rattle.faults.specs.Faults.{fault_of}
use Rattle.faults.proofs.Places.{message_fault, fault_none}
use Rattle.answers.specs.Paper.{fault_number, is_faulty, number_of, place_of}
use Rattle.answers.specs.declared.Answer.{Answer}
use Rattle.answers.specs.declared.Answer.TheVariants.{Faulty as IsFaulty}
use Rattle.answers.specs.declared.Fault.{Fault}
use Rattle.answers.proofs.Paper.{fault_other, fault_injective, faulty_place}
use Rattle.deciding.specs.Decisions.{objection, objection_to}
use Rattle.looking.specs.declared.Kind.{Kind}
use Rattle.promises.specs.Machine.{State, Sound}
use Rattle.promises.specs.Runs.{offered, has_space}
use Rattle.promises.specs.Sending.{Intact}
use Rattle.promises.specs.Inner.Came.{Came, quiet, stored, crowded, against}
use Rattle.promises.specs.Exactly.{Exactly, answer_to, number_to, place_to, DecidedExactly}
use Rattle.promises.proofs.Sound.{sound_intact}
use Rattle.promises.proofs.Came.{comes_to, objected, objected_with}

-- ---- what an answer tells of the check

-- a fault's number and place are those of that fault and place alone
told_faulty : (x : Result (Unit {0}) Flaw) (a : Answer) → a ≡ objection x → (f : Fault) (place : ℕ) → number_of a ≡ fault_number f → place_of a ≡ place → x ≡ Err (Faulty f place)
told_faulty (Ok tt) a e f place n p = absurd (fault_other f 30 refl (sym n ∙ ap number_of e))
told_faulty (Err NotText) a e f place n p = absurd (fault_other f 30 refl (sym n ∙ ap number_of e))
told_faulty (Err (Faulty g q)) a e f place n p =
    let at : q ≡ place = sym (faulty_place g q) ∙ sym (ap place_of e) ∙ p in
    let kind : g ≡ f = fault_injective g f (sym (ap number_of e) ∙ n) in
    λ z. Err (Faulty (kind z) (at z))

told_foreign : (x : Result (Unit {0}) Flaw) (a : Answer) → a ≡ objection x → number_of a ≡ 30 → (x ≡ Ok tt → ⊥) → x ≡ Err NotText
told_foreign (Ok tt) a e n other = absurd (other refl)
told_foreign (Err NotText) a e n other = refl
told_foreign (Err (Faulty g q)) a e n other = absurd (fault_other g 30 refl (sym (ap number_of e) ∙ n))

module _ (s : State) (i : ℕ) (k : Kind) where
  abbrev n : ℕ
  n = number_to s i k

  -- an event completes one text
  one_text : (t text : List ℕ) → offered s i k ≡ Some t → offered s i k ≡ Some text → t ≡ text
  one_text t text p q = cc

  -- ---- a message: 4 or 31

  module _ (t : List ℕ) (m : is_message t ≡ true) where
    -- nothing is wrong with it, and no other number is 4 or 31
    right : (x : Result (Unit {0}) Flaw) → fault_of t ≡ x → (x ≡ Ok tt → ⊥) → ⊥
    right x e other = other (sym e ∙ message_fault _ t m)

    decided : (c : ℕ) → n ≡ c → is_faulty c ≡ false → eqb c 30 ≡ false
        → ((f : Fault) (place : ℕ) → Exactly ((n ≡ fault_number f) × (place_to s i k ≡ place)) (fault_of t ≡ Err (Faulty f place))) × Exactly (n ≡ 30) (fault_of t ≡ Err NotText)
    decided c is plain no-30 = (
      λ f place. (λ e. absurd (fault_other f c plain (sym e.0 ∙ is)), λ e. absurd (right (Err (Faulty f place)) e (λ q. clash cc))),
      (λ e. never_both (eqb c 30) (eq-eqb c 30 (sym is ∙ e)) no-30, λ e. absurd (right (Err NotText) e (λ q. clash cc))),
    )

  -- ---- no message: its first fault, or 30

  module _ (t : List ℕ) (m : is_message t ≡ false) (is : answer_to s i k ≡ objection_to t) where
    as_checked : answer_to s i k ≡ objection (fault_of t)
    unfolding objection_to
    as_checked = is

    wrong : fault_of t ≡ Ok tt → ⊥
    wrong e = never_both (is_message t) (fault_none _ t e) m

    at_fault : (f : Fault) (place : ℕ) → Exactly ((n ≡ fault_number f) × (place_to s i k ≡ place)) (fault_of t ≡ Err (Faulty f place))
    at_fault f place = (
      λ e. told_faulty (fault_of t) (answer_to s i k) as_checked f place e.0 e.1,
      λ e. let a : answer_to s i k ≡ IsFaulty f place = as_checked ∙ ap objection e in (ap number_of a, ap place_of a ∙ faulty_place f place),
    )

    foreign : Exactly (n ≡ 30) (fault_of t ≡ Err NotText)
    foreign = (
      λ e. told_foreign (fault_of t) (answer_to s i k) as_checked e wrong,
      λ e. ap number_of (as_checked ∙ ap objection e),
    )

  came_exactly : Came s i k → (text : List ℕ) → offered s i k ≡ Some text → (is_message text ≡ false → answer_to s i k ≡ objection_to text) → DecidedExactly s i k text
  came_exactly (quiet x) text complete told =
      let z : None ≡ Some text = sym x.no_text ∙ complete in
      clash cc
  came_exactly (stored t m room x) text complete told =
      let (faulty, foreign) = decided t m 4 x.number refl refl in
      subst (DecidedExactly s i k) (one_text t text x.complete complete)
      (record {
        stored = (λ e. (m, room), λ e. x.number);
        crowded = (λ e. absurd (omega (arith, x.number, e)), λ e. never_both (has_space s i (length t)) room e.1);
        faulty = faulty;
        foreign = foreign;
      })
  came_exactly (crowded t m room x) text complete told =
      let (faulty, foreign) = decided t m 31 x.number refl refl in
      subst (DecidedExactly s i k) (one_text t text x.complete complete)
      (record {
        stored = (λ e. absurd (omega (arith, x.number, e)), λ e. never_both (has_space s i (length t)) e.1 room);
        crowded = (λ e. (m, room), λ e. x.number);
        faulty = faulty;
        foreign = foreign;
      })
  came_exactly (against t m x) text complete told =
      let same = one_text t text x.complete complete in
      let none-such = ap is_message (sym same) ∙ m in
      record {
        stored = (λ e. never_both (eqb n 4) (eq-eqb n 4 e) (objected t n x.number).not_4, λ e. never_both (is_message text) e.0 none-such);
        crowded = (λ e. never_both (eqb n 31) (eq-eqb n 31 e) (objected t n x.number).not_31, λ e. never_both (is_message text) e.0 none-such);
        faulty = at_fault text none-such (told none-such);
        foreign = foreign text none-such (told none-such);
      }

-- of every state with records within their limits, memory of the right sizes and a whole journal, whatever the lines claim
pub decided_intact : (s : State) → Intact s → (i : ℕ) → i < lines → (k : Kind) (text : List ℕ) → offered s i k ≡ Some text → DecidedExactly s i k text
decided_intact s w i line k text complete = came_exactly s i k (comes_to s w i k line) text complete (objected_with s w i k line text complete)

-- and so of every sound state, as every run from fresh leaves it
pub decided_exactly : (s : State) → Sound s → (i : ℕ) → i < lines → (k : Kind) (text : List ℕ) → offered s i k ≡ Some text → DecidedExactly s i k text
decided_exactly s w i line k text complete = decided_intact s (sound_intact s w) i line k text complete

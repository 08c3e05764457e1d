-- What deciding a complete text comes to, by the journal's answer.
-- Assumes nothing.
use Rattle.std.specs.Prelude.{Err, Ok, Result}
use Rattle.journal.specs.declared.Refusal.{Refusal}
use Rattle.faults.specs.declared.Flaw.{Flaw}
use mathlib.Core.Path.{◌≡◌, refl, sym, ap, subst, ◌∙◌}
use mathlib.Core.Bool.{Bool, true, false}
use mathlib.Core.List.{List}
use Prim.Native.Nat.{ℕ, ◌<◌}
use native.Mathlib.Omega.{arith}
use lib.ListN.{length}
use Rattle.memory.specs.Sizes.{message_limit}
use Rattle.memory.proofs.Tests.{is_false}
use Rattle.room.specs.Room.{todays_shares}
use Rattle.faults.specs.Message.{is_message}
use Rattle.faults.specs.Faults.{fault_of}
use Rattle.faults.proofs.Messages.{message_short}
use Rattle.faults.proofs.Places.{fault_too_long}
use Rattle.journal.specs.Verdicts.{judge_of}
use Rattle.journal.specs.Storage.{store_by, store_of, Stored}
use Rattle.journal.specs.declared.Ledger.{Ledger}
use Rattle.journal.specs.declared.Storing.{Storing}
use Rattle.answers.specs.Paper.{number_of}
use Rattle.answers.proofs.Paper.{fault_number_law}
use Rattle.answers.specs.Inner.Objections.{is_objection}
use Rattle.answers.specs.declared.Answer.TheVariants.{NoMessage}
use Rattle.deciding.specs.Decisions.{Against, objection, objection_to, room_outcome, outcome_of, ledger_by, journal_by, DecidedBy, Decision}
use Rattle.deciding.specs.declared.Outcome.{Outcome}
use Rattle.deciding.specs.declared.Decided.{Decided}

-- a decision is known by its text
pub decided_as : {d : Ledger} {i : ℕ} {s t j : List ℕ} {r : Decided} {j' : List ℕ} → s ≡ t → Decision d i s j r j' → Decision d i t j r j'
decided_as {d} {i} {s} {t} {j} {r} {j'} e h = subst (λ (x : List ℕ). Decision d i x j r j') e h

-- the answer to a text that is no message has the number of an objection
checked_number : (x : Result (Unit {0}) Flaw) → is_objection (number_of (objection x)) ≡ true
checked_number (Ok tt) = refl
checked_number (Err Flaw.NotText) = refl
checked_number (Err (Flaw.Faulty f place)) = rw (fault_number_law f)

pub objection_number : (text : List ℕ) → is_objection (number_of (objection_to text)) ≡ true
unfolding objection_to
objection_number text = checked_number (fault_of text)

-- it is told by what the check of the text finds
pub objection_checked : (text : List ℕ) (x : Result (Unit {0}) Flaw) {found : Result (Unit {0}) Flaw} → found ≡ fault_of text → found ≡ x → objection x ≡ objection_to text
unfolding objection_to
objection_checked text x f e = ap objection (sym e ∙ f)

-- what the journal's storing leaves is what its answer comes to
room_row : (q : Result (Unit {0}) Refusal) (d : Ledger) (i : ℕ) (text j : List ℕ)
    → ((store_by q d i text j).storing.answer ≡ q)
    × ((store_by q d i text j).storing.ledger ≡ ledger_by (room_outcome q).fate d i text)
    × ((store_by q d i text j).journal ≡ journal_by (room_outcome q).fate d i text j)
room_row (Ok tt) d i text j = (refl, refl, refl)
room_row (Err Refusal.NoRoom) d i text j = (refl, refl, refl)
room_row (Err Refusal.Broken) d i text j = (refl, refl, refl)
room_row (Err Refusal.NoLine) d i text j = (refl, refl, refl)
room_row (Err Refusal.WrongSize) d i text j = (refl, refl, refl)
room_row (Err Refusal.Malformed) d i text j = (refl, refl, refl)

module _ (shares : List ℕ) (d : Ledger) (i : ℕ) (text j : List ℕ) where
  -- a text that is no message is decided against
  pub is_objection_law : is_message text ≡ false → outcome_of shares d i text j ≡ Against (objection_to text)
  unfolding outcome_of
  is_objection_law e = rw e

  -- a message is decided by the journal
  pub is_room : is_message text ≡ true → outcome_of shares d i text j ≡ room_outcome (judge_of d shares i (length text) j)
  unfolding outcome_of
  is_room e = rw e

  -- what holds of an objection, and of what the journal says, holds of the outcome
  pub outcome_cases : (P : Outcome → Type 0) → P (Against (objection_to text)) → P (room_outcome (judge_of d shares i (length text) j)) → P (outcome_of shares d i text j)
  outcome_cases P against by_room = by_message (is_message text) refl
    where
      by_message : (b : Bool) → is_message text ≡ b → P (outcome_of shares d i text j)
      by_message true e = subst P (sym (is_room e)) by_room
      by_message false e = subst P (sym (is_objection_law e)) against

module _ (d : Ledger) (i : ℕ) (text j : List ℕ) where
  decision_by : (o : Outcome) {r : Decided} {j' : List ℕ} → outcome_of todays_shares d i text j ≡ o → DecidedBy o d i text j r j' → Decision d i text j r j'
  decision_by o {r} {j'} e h = subst (λ (x : Outcome). DecidedBy x d i text j r j') (sym e) h

  pub no_message : (o : Outcome) → o ≡ Against (objection_to text) → is_message text ≡ false → Decision d i text j (record { outcome = o; ledger = d }) j
  no_message o of e = decision_by (Against (objection_to text)) (is_objection_law todays_shares d i text j e) (record { outcome = of; ledger = refl; journal = refl })

  -- a text that is longer than any message
  pub too_long : (o : Outcome) → o ≡ Against NoMessage → message_limit < length text → Decision d i text j (record { outcome = o; ledger = d }) j
  unfolding objection_to
  too_long o of h = no_message o (of ∙ sym (ap (λ (x : Result (Unit {0}) Flaw). Against (objection x)) (fault_too_long _ text h))) (is_false (is_message text) (λ m. absurd (omega (arith, message_short _ text m, h))))

  pub by_store : (s : Storing) (o : Outcome) (j' : List ℕ) → is_message text ≡ true → Stored d todays_shares i text j s j' → o ≡ room_outcome s.answer → Decision d i text j (record { outcome = o; ledger = s.ledger }) j'
  unfolding store_of
  by_store s o j' e st w =
      let q = judge_of d todays_shares i (length text) j in
      let (answer, ledger, journal) = room_row q d i text j in
      decision_by (room_outcome q) (is_room todays_shares d i text j e)
      (record {
        outcome = w ∙ ap (λ (x : Storing). room_outcome x.answer) st.result ∙ ap room_outcome answer;
        ledger = ap (λ (x : Storing). x.ledger) st.result ∙ ledger;
        journal = st.after ∙ journal;
      })

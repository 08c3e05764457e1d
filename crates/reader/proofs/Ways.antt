-- Each way out of a taking.
-- Assumes nothing.
use mathlib.Core.Path.{◌≡◌, sym, ap, subst, ◌∙◌}
use mathlib.Core.List.{List}
use Prim.Native.Nat.{ℕ, ◌≤◌, ◌<◌}
use borrow.Author.Tests.{lt-ltb, le-ltb}
use lib.ListN.{get_or}
use Rattle.memory.specs.Sizes.{lines}
use Rattle.answers.specs.declared.Answer.TheVariants.{NoLine}
use Rattle.journal.specs.declared.Ledger.{Ledger}
use Rattle.journal.specs.declared.Taking.{Taking}
use Rattle.journal.specs.Removal.{take_of, TakenFrom}
use Rattle.journal.proofs.Takings.{taken_line}
use Rattle.ledger.specs.Ledgers.{ledger_of, with_used, counts_after, Narrow}
use Rattle.answers.specs.InNumbers.{in_numbers}
use Rattle.answers.specs.declared.Answered.{Answered}
use Rattle.ledger.proofs.Ledgers.{there}
use Rattle.reader.specs.Takings.{TakeState, used_after, Taken, taking_in_numbers}
use Rattle.reader.proofs.Narrow.{taking_narrow}

module _ (ns : List ℕ) (i : ℕ) (s : TakeState) where
  pub narrow_taken : (d : Ledger) {t : Taking} → t ≡ (take_of d i s.journal s.buffer).taking → Narrow d → Narrow t.ledger
  narrow_taken d q w = subst (λ (x : Taking). Narrow x.ledger) (sym q) (taking_narrow d i s.journal s.buffer w)

  -- 40, before the ledger is read
  pub taken_nowhere : {r : Answered} → lines ≤ i → r ≡ in_numbers NoLine → Taken ns i s r s
  unfolding taking_in_numbers
  taken_nowhere h a =
      let n = taken_line (ledger_of ns s.counts) i s.journal s.buffer h in
      let counts : s.counts ≡ used_after s.counts i (take_of (ledger_of ns s.counts) i s.journal s.buffer) = rw (le-ltb i lines h) in
      record {
        result = a ∙ ap (λ (z : Taking). taking_in_numbers z.answer) n.result;
        state = λ x. record { counts = counts x; journal = n.after x; buffer = n.lent x };
      }

  pub taken_there : {d : Ledger} {t : Taking} {us j b : List ℕ} {r : Answered} → i < lines → d ≡ ledger_of ns s.counts → TakenFrom d i s.journal s.buffer t j b → r ≡ taking_in_numbers t.answer
      → us ≡ counts_after s.counts i (get_or t.ledger.used i 0) t.ledger.in_use → Taken ns i s r (record { counts = us; journal = j; buffer = b })
  taken_there {d} {t} {us} {j} {b} {r} h p x q o =
      let y : TakenFrom (ledger_of ns s.counts) i s.journal s.buffer t j b = rw (← p) x in
      let counts : us ≡ used_after s.counts i (take_of (ledger_of ns s.counts) i s.journal s.buffer) =
      rw (lt-ltb i lines h) (o ∙ there i s.counts (with_used s.counts i t.ledger) h ∙ ap (λ (z : Taking). with_used s.counts i z.ledger) y.result) in
      record {
        result = q ∙ ap (λ (z : Taking). taking_in_numbers z.answer) y.result;
        state = λ x. record { counts = counts x; journal = y.after x; buffer = y.lent x };
      }

-- Any two outcomes that a contract of this crate allows are equal.
-- Assumes nothing.
use Rattle.std.specs.Prelude.{Result}
use Rattle.journal.specs.declared.Refusal.{Refusal}
use Rattle.std.proofs.Common.{◌≡◌, ℕ, List, sym, ◌∙◌}
use Rattle.journal.specs.Chain.{fresh_ledger}
use Rattle.journal.specs.Verdicts.{judge_of}
use Rattle.journal.specs.Storage.{Stored}
use Rattle.journal.specs.Removal.{TakenFrom}
use Rattle.journal.specs.declared.Ledger.{Ledger}
use Rattle.journal.specs.declared.Storing.{Storing}
use Rattle.journal.specs.declared.Taking.{Taking}

-- `Ledger::fresh`
pub fresh_once : {r q : Ledger} → r ≡ fresh_ledger → q ≡ fresh_ledger → r ≡ q
fresh_once a b = a ∙ sym b

-- `judge`
pub judged_once : (d : Ledger) (sh : List ℕ) (l n : ℕ) (j : List ℕ) {r q : Result (Unit {0}) Refusal} → r ≡ judge_of d sh l n j → q ≡ judge_of d sh l n j → r ≡ q
judged_once d sh l n j a b = a ∙ sym b

-- `store`
pub stored_once : (d : Ledger) (sh : List ℕ) (l : ℕ) (t j : List ℕ) {r q : Storing} {x y : List ℕ} → Stored d sh l t j r x → Stored d sh l t j q y → (r ≡ q) × (x ≡ y)
stored_once d sh l t j a b = (a.result ∙ sym b.result, a.after ∙ sym b.after)

-- `take`
pub taken_once : (d : Ledger) (l : ℕ) (j b : List ℕ) {r q : Taking} {x y v w : List ℕ} → TakenFrom d l j b r x v → TakenFrom d l j b q y w → (r ≡ q) × (x ≡ y) × (v ≡ w)
taken_once d l j b p q = (p.result ∙ sym q.result, p.after ∙ sym q.after, p.lent ∙ sym q.lent)

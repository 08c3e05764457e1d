-- What each way out of writing a finding says, and that any two outcomes that the contract allows are equal.
-- Assumes nothing.
use Rattle.std.specs.Prelude.{Option, Some, None}
use mathlib.Core.Path.{◌≡◌, sym, ap, ◌∙◌}
use mathlib.Core.List.{List}
use Prim.Native.Nat.{ℕ, ◌<◌, ◌≤◌}
use lib.ListN.{length}
use borrow.Author.Tests.{eq-eqb, ne_eqb, le-leb, lt-leb}
use Rattle.memory.specs.Parts.{splice}
use Rattle.settings.specs.Settings.{results_length}
use Rattle.settings.specs.declared.Patient.{Patient}
use Rattle.finding.specs.Findings.{finding_limit, finding_of, put_length, put_over, FindingPut}

module _ (p : Patient) (bs out : List ℕ) where
  pub odd_length : (length bs ≡ results_length p → ⊥) → FindingPut p bs out None out
  unfolding put_length put_over
  odd_length h = let odd = ne_eqb (length bs) (results_length p) h in record { answer = rw odd; after = rw odd }

  module _ (e : length bs ≡ results_length p) where
    pub no_room : length out < finding_limit → FindingPut p bs out None out
    unfolding put_length put_over
    no_room h =
        let right = eq-eqb (length bs) (results_length p) e in
        let full = lt-leb finding_limit (length out) h in
        record { answer = rw (right, full); after = rw (right, full) }

    pub put : {r : ℕ} {out' : List ℕ} → finding_limit ≤ length out → r ≡ length (finding_of p bs) → out' ≡ splice out 0 (finding_of p bs) → FindingPut p bs out (Some r) out'
    unfolding put_length put_over
    put h n o =
        let right = eq-eqb (length bs) (results_length p) e in
        let holds = le-leb finding_limit (length out) h in
        record { answer = rw (right, holds) (ap Some n); after = rw (right, holds) o }

-- `put_finding`
pub finding_put_once : (p : Patient) (bs out : List ℕ) {r q : Option ℕ} {x y : List ℕ} → FindingPut p bs out r x → FindingPut p bs out q y → (r ≡ q) × (x ≡ y)
finding_put_once p bs out a b = (a.answer ∙ sym b.answer, a.after ∙ sym b.after)

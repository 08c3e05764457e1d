-- A run goes on by one line, or stops.
-- Assumes nothing.
use Rattle.std.proofs.Common.{◌≡◌, ℕ, zero, suc, ◌-◌, ◌<◌, List, sym, refl, ap, ◌∙◌, arith}
use native.Mathlib.Numerals.{unary_clauses}
use Rattle.replaying.specs.Desk.{Desk}
use Rattle.replaying.specs.Turns.{Went, AfterTurn, turn_leaves, stopped, turn_of}
use Rattle.replaying.specs.Runs.{following, left, by_turn, run_of}
use Rattle.replaying.specs.declared.Stop.{Stop}
use Rattle.replaying.specs.declared.Stop.TheVariants.{Input}

module _ (input : List ℕ) (count at put : ℕ) (out : List ℕ) (d : Desk) where
  one_more : (most : ℕ) {t : AfterTurn} → t ≡ turn_of (following count) input at out put d
      → run_of (suc most) input count at put out d ≡ by_turn t.turn (λ behind end. run_of most input (following count) behind end t.out t.desk) (λ s. left s count at put t.out t.desk)
  unfolding run_of
  one_more most l =
      ap (λ (t : AfterTurn). by_turn t.turn (λ behind end. run_of most input (following count) behind end t.out t.desk) (λ s. left s count at put t.out t.desk))
      (sym l)

  pub went_on : (most : ℕ) {next behind end : ℕ} {out' : List ℕ} {d' : Desk} → 0 < most → next ≡ following count → turn_leaves (Went behind end) out' d' ≡ turn_of next input at out put d
      → run_of most input count at put out d ≡ run_of (most - 1) input next behind end out' d'
  went_on zero h n l = absurd (omega arith)
  went_on (suc most) {behind = behind} {end = end} {out' = out'} {d' = d'} h n l =
      one_more most (rw n at l) ∙ rw (← n) (simp unary_clauses)

  pub stopped_at : (most : ℕ) {s : Stop} → 0 < most → stopped s out d ≡ turn_of (following count) input at out put d → left s count at put out d ≡ run_of most input count at put out d
  stopped_at zero h l = absurd (omega arith)
  stopped_at (suc most) h l = sym (one_more most l)

-- no line more
pub ran_out : (input : List ℕ) (count at put : ℕ) (out : List ℕ) (d : Desk) → left Input count at put out d ≡ run_of 0 input count at put out d
unfolding run_of
ran_out input count at put out d = refl

-- What a frame in turn has passed.
-- Assumes nothing.
use mathlib.Core.Path.{◌≡◌, refl}
use mathlib.Core.Bool.{Bool, true, false, cond}
use Prim.Native.Nat.{ℕ, ◌+◌, ◌≤◌}
use native.Mathlib.Omega.{arith}
use borrow.Author.Tests.{leb-true, eqb-true}
use lib.Dec.{leb, eqb}
use Rattle.memory.specs.Sizes.{message_limit}
use Rattle.memory.specs.Tests.{unless}
use Rattle.line.specs.Turn.{is_last, turn_of}
use Rattle.line.specs.declared.Line.{Line}
use Rattle.line.specs.declared.Turn.TheVariants.{Refused, Again, Missed, Overlong, InTurn}

passed : (a b c d : Bool) → cond a Refused (cond b Again (unless c Missed (unless d Overlong InTurn))) ≡ InTurn
    → (a ≡ false) × (b ≡ false) × (c ≡ true) × (d ≡ true)
passed false false true true e = (refl, refl, refl, refl)
passed false false true false e = let z : ◌≡◌ {A = ℕ} 0 1 = cc in absurd (omega arith)
passed false false false d e = let z : ◌≡◌ {A = ℕ} 0 1 = cc in absurd (omega arith)
passed false true c d e = let z : ◌≡◌ {A = ℕ} 0 1 = cc in absurd (omega arith)
passed true b c d e = let z : ◌≡◌ {A = ℕ} 0 1 = cc in absurd (omega arith)

pub record Due (l : Line) (number length : ℕ) : Type 0 where
  pub willing : l.refusing ≡ false
  pub new : is_last l.last number ≡ false
  pub next : number ≡ l.next
  pub room : l.joined + length ≤ message_limit

pub in_turn_due : (l : Line) (number length : ℕ) → turn_of l number length ≡ InTurn → Due l number length
unfolding turn_of
in_turn_due l number length e =
    let (a, b, c, d) = passed l.refusing (is_last l.last number) (eqb number l.next) (leb (l.joined + length) message_limit) e in
    record { willing = a; new = b; next = eqb-true number l.next c; room = leb-true (l.joined + length) message_limit d }

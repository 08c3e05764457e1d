-- `memory::close_up` meets its contract. The loop's invariant: i - at of the later bytes have moved down, and the rest is as it was.
-- Assumes nothing.
use mathlib.Core.Path.{◌≡◌, refl, sym, ◌∙◌, ap}
use mathlib.Core.Bool.{true}
use mathlib.Core.List.{List}
use Prim.Native.Nat.{ℕ, ◌+◌, ◌-◌, ◌≤◌}
use native.Mathlib.Nat.{sub_self}
use native.Mathlib.Omega.{arith}
use lib.ListN.{length, take}
use lib.Seq.{take_all, length-take-le}
use Rattle.memory.specs.Parts.{part, splice}
use Rattle.memory.specs.Moves.{later, ClosedUp}
use Rattle.memory.proofs.Parts.{length_part, length_splice, splice_nil}
use Rattle.memory.proofs.Moves.{close_on, closed_no, closed_yes}
use Rattle.memory.proofs.close_up.Invariants.{Moved}
use Rattle.memory.proofs.close_up.Goals as goal

-- a turn: the next n of the later bytes have moved down
turn : (area₀ : List ℕ) (at gap end last : ℕ) (area : List ℕ) (i n : ℕ) {area' : List ℕ} → Moved area₀ at gap end last area i → n ≤ last - i
    → area' ≡ splice area i (part area (i + gap) n) → Moved area₀ at gap end last area' (i + n)
turn area₀ at gap end last area i n v h moved =
    let fits = v.fits in
    let room = v.room in
    let upto = v.upto in
    let low = v.low in
    let high = v.high in
    let j : ℕ = i - at in
    let here : i ≡ at + j = omega arith in
    let next : i + n - at ≡ j + n = omega arith in
    let all : length (later area₀ at gap end) ≡ end - (at + gap) = length_part area₀ (at + gap) (end - (at + gap)) (omega arith) in
    let first : length (take (j + n) (later area₀ at gap end)) ≡ j + n = length-take-le (j + n) (later area₀ at gap end) (omega arith) in
    let same = moved
    ∙ ap (λ (m : ℕ). splice area m (part area (m + gap) n)) here
    ∙ rw (← v.same) at (close_on area₀ at gap end j n fits (omega arith)) in
    record {
      fits = fits;
      room = room;
      upto = upto;
      low = omega arith;
      high = omega arith;
      same = rw next same;
      long = ap length same ∙ length_splice area₀ at (take (j + n) (later area₀ at gap end)) (omega arith);
    }

-- all of the later bytes have moved down
closed : (area₀ : List ℕ) (at gap end last : ℕ) (area : List ℕ) (i : ℕ) → Moved area₀ at gap end last area i → last ≤ i → ClosedUp area₀ at gap end true area
closed area₀ at gap end last area i v h =
    let fits = v.fits in
    let room = v.room in
    let upto = v.upto in
    let long : length (later area₀ at gap end) ≡ end - (at + gap) = length_part area₀ (at + gap) (end - (at + gap)) (omega arith) in
    let all : length (later area₀ at gap end) ≤ i - at = omega arith in
    closed_yes area₀ at gap end fits (omega arith) (v.same ∙ ap (splice area₀ at) (take_all (i - at) (later area₀ at gap end) all))

pub returns-then-area-end : goal.returns-then-area-end
returns-then-area-end c = let a = c.args in closed_no a.area.now a.at a.gap a.end (λ h k. omega arith)

pub returns-then-end-at : goal.returns-then-end-at
returns-then-end-at c = let a = c.args in closed_no a.area.now a.at a.gap a.end (λ h k. omega arith)

pub returns-then-end-at-2 : goal.returns-then-end-at-2
returns-then-end-at-2 c = let a = c.args in closed_no a.area.now a.at a.gap a.end (λ h k. omega arith)

pub loop-i-init : goal.loop-i-init
loop-i-init c =
    let a = c.args in
    record {
      fits = omega arith;
      room = omega arith;
      upto = refl;
      low = omega arith;
      high = omega arith;
      same = rw sub_self (sym (splice_nil a.area.now a.at));
      long = refl;
    }

pub loop-i-preserved : goal.loop-i-preserved
loop-i-preserved c =
    let l = c.loop-i in
    let a = c.args in
    let whole : c.min.result ≡ 32768 = omega (arith, c.min.ensures) in
    rw whole at (turn a.area.now a.at a.gap a.end _ l.area l.i c.min.result l.invariant (omega arith) c.move_down.ensures)

pub returns-else-end-at-2 : goal.returns-else-end-at-2
returns-else-end-at-2 c = let a = c.args in closed a.area.now a.at a.gap a.end (a.end - a.gap) c.loop-i.area c.loop-i.i c.loop-i.invariant (omega arith)

pub returns-else-end-at-2-2 : goal.returns-else-end-at-2-2
returns-else-end-at-2-2 c =
    let l = c.loop-i in
    let a = c.args in
    let h = turn a.area.now a.at a.gap a.end _ l.area l.i c.min.result l.invariant (omega arith) c.move_down.ensures in
    closed a.area.now a.at a.gap a.end (a.end - a.gap) c.move_down.new.area (l.i + c.min.result) h (omega (arith, c.min.ensures))

-- `packed::read_field` meets its contract. The loop's invariant: n is the number that the bytes passed make.
-- Assumes nothing.
use mathlib.Core.Path.{◌≡◌, refl, ap}
use mathlib.Core.List.{List}
use Prim.Native.Nat.{ℕ, ◌+◌, ◌-◌, ◌<◌}
use native.Mathlib.Omega.{arith}
use lib.ListN.{length, take, drop, get_or, length-take, length-drop}
use Rattle.std.proofs.lemmas.List.Edits.{get_or-between}
use Rattle.memory.proofs.Parts.{length_part, part_lent}
use Rattle.packed.specs.Fields.{field_at}
use Rattle.packed.proofs.Octets.{read_more, byte_more, room_for_byte, is_field_law, no_field}
use Rattle.packed.proofs.read_field.Goals as goal

-- what is passed lies in the field, and is the memory's
in_field : (d : List ℕ) (at size i : ℕ) → i < length (take (at + size - at) (drop at d)) → i < size
in_field d at size i h = let g = simp (length-take, length-drop) at h in omega arith

of_field : (d : List ℕ) (at size i : ℕ) → i < size → get_or (take (at + size - at) (drop at d)) i 0 ≡ get_or d (at + i) 0
of_field d at size i h = get_or-between d at (at + size) i 0 (omega arith)

pub returns-then-size-gt-LONGEST_FIELD : goal.returns-then-size-gt-LONGEST_FIELD
unfolding field_at
returns-then-size-gt-LONGEST_FIELD c = let a = c.args in rw (no_field a.area.now a.at a.size (λ h k. omega arith))

pub returns-then-area-at : goal.returns-then-area-at
unfolding field_at
returns-then-area-at c = let a = c.args in rw (no_field a.area.now a.at a.size (λ h k. omega arith))

pub returns-then-area-at-2 : goal.returns-then-area-at-2
unfolding field_at
returns-then-area-at-2 c = let a = c.args in rw (no_field a.area.now a.at a.size (λ h k. omega arith))

pub loop-b-init : goal.loop-b-init
loop-b-init c = record { same = refl; below = omega arith }

pub overflow_mul-n : goal.overflow_mul-n
overflow_mul-n c =
    let l = c.loop-b in
    let a = c.args in
    let lt : l.b-index < a.size = in_field a.area.now a.at a.size l.b-index c.loop-b-test.true in
    omega (arith, room_for_byte l.n l.b-index l.invariant.below (omega arith))

pub overflow_add-n : goal.overflow_add-n
overflow_add-n c =
    let l = c.loop-b in
    let a = c.args in
    let lt : l.b-index < a.size = in_field a.area.now a.at a.size l.b-index c.loop-b-test.true in
    let byte = c.type_inv.area (a.at + l.b-index) in
    rw (of_field a.area.now a.at a.size l.b-index lt) (omega (arith, room_for_byte l.n l.b-index l.invariant.below (omega arith)))

pub loop-b-preserved : goal.loop-b-preserved
loop-b-preserved c =
    let l = c.loop-b in
    let a = c.args in
    let lt : l.b-index < a.size = in_field a.area.now a.at a.size l.b-index c.loop-b-test.true in
    let byte = c.type_inv.area (a.at + l.b-index) in
    rw (of_field a.area.now a.at a.size l.b-index lt) record {
      same = rw l.invariant.same (read_more a.area.now a.at l.b-index (omega arith));
      below = byte_more l.n (get_or a.area.now (a.at + l.b-index) 0) l.b-index l.invariant.below (omega arith);
    }

pub returns : goal.returns
unfolding field_at
returns c =
    let l = c.loop-b in
    let a = c.args in
    let all : l.b-index ≡ a.size = omega (arith, length_part a.area.now a.at a.size (omega arith), ap length (part_lent a.area.now a.at a.size)) in
    rw (is_field_law a.area.now a.at a.size (omega arith) (omega arith), l.invariant.same, all)

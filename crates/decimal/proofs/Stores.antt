-- Texts stored one behind the other in lent memory.
-- Assumes nothing.
use mathlib.Core.Path.{◌≡◌, ◌∙◌}
use mathlib.Core.List.{List, [], ◌∷◌, ◌++◌}
use Prim.Native.Nat.{ℕ, ◌+◌, ◌≤◌}
use native.Mathlib.Omega.{arith}
use lib.ListN.{length, set}
use Rattle.memory.specs.Parts.{splice}
use Rattle.memory.proofs.Parts.{set_splice, set_behind, splice_join}

pub put_two : (d : List ℕ) (at a b : ℕ) → at + 2 ≤ length d → set (set d at a) (at + 1) b ≡ splice d at (a ∷ b ∷ [])
put_two d at a b h = rw (set_splice d at a (omega arith)) (set_behind d at (a ∷ []) b (omega arith))

-- a text behind another one, and a byte behind a text
pub joined : (d : List ℕ) (at : ℕ) (s t : List ℕ) {p : ℕ} {x y : List ℕ} → at + length s + length t ≤ length d → p ≡ at + length s → x ≡ splice d at s → y ≡ splice x p t
    → y ≡ splice d at (s ++ t)
joined d at s t {p} {x} {y} h e k g = g ∙ rw (e, k) (splice_join d at s t h)

pub byte_behind : (d : List ℕ) (at : ℕ) (s : List ℕ) (b : ℕ) {p : ℕ} {x : List ℕ} → at + length s + 1 ≤ length d → p ≡ at + length s → x ≡ splice d at s
    → set x p b ≡ splice d at (s ++ (b ∷ []))
byte_behind d at s b {p} {x} h e k = rw (e, k) (set_behind d at s b (omega arith))

-- `memory::move_down` meets its contract: the bytes are the start of the buffer, and then they are at `at`.
-- Assumes nothing.
use mathlib.Core.Path.{◌≡◌, ap, ◌∙◌}
use mathlib.Core.List.{List, ◌++◌}
use Prim.Native.Nat.{ℕ, ◌+◌, ◌-◌, ◌≤◌}
use native.Mathlib.Omega.{arith}
use lib.ListN.{length, take, drop}
use lib.Seq.{take_at}
use borrow.Rule.Slice.PartMut.{put_mid}
use Rattle.memory.specs.Parts.{part, splice}
use Rattle.memory.proofs.Parts.{part_lent, length_part}
use Rattle.memory.proofs.Moves.{put_splice}
use Rattle.memory.proofs.move_down.Goals as goal

-- the part that was laid over the start of the buffer, whose rest is z, is laid to `at`
moved : (d : List ℕ) (at from n : ℕ) (b y z : List ℕ) → from + n ≤ length d → b ≡ take (from + n - from) (drop from d) → y ≡ take n (b ++ z)
    → put_mid at (at + n - at) d y ≡ splice d at (part d from n)
moved d at from n b y z h e k =
    let held : b ≡ part d from n = e ∙ part_lent d from n in
    let long : length b ≡ n = ap length held ∙ length_part d from n h in
    put_splice d at n (k ∙ take_at b z n long ∙ held) (length_part d from n h)

pub returns : goal.returns
returns c =
    let a = c.args in
    moved a.area.now a.at (a.at + a.gap) a.n _ _ _ (omega arith) c.copy_from_slice.ensures.after c.copy_from_slice-2.ensures.after

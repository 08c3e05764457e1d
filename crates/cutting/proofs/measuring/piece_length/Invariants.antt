-- `cutting::measuring::piece_length` meets its contract: the bytes from n on decide, and there is one at n.
-- Assumes nothing.
use mathlib.Core.Path.{◌≡◌}
use mathlib.Core.List.{List}
use Prim.Native.Nat.{ℕ, ◌+◌, ◌-◌, ◌≤◌, ◌<◌}
use lib.ListN.{length, take, drop}
use Rattle.pieces.specs.Pieces.{piece_size, through_cr}
use Rattle.cutting.proofs.measuring.piece_length.Given as goal

-- before a turn: what is left of the piece, from n on, decides
pub record Scanning (limit : ℕ) (text : List ℕ) (n : ℕ) : Type 0 where
  pub byte_left : n < length text
  pub n_within : n ≤ piece_size limit
  pub goes_on : n + through_cr (take (piece_size limit - n) (drop n text)) ≡ through_cr (take (piece_size limit) text)

abbrev pub invariant-loop-n : goal.invariant-loop-n
invariant-loop-n l = Scanning l.limit l.text l.n

-- `escaping::without_escapes::write` meets its contract: what is stored, with what is left to store, is all.
-- Assumes nothing.
use Rattle.std.specs.Prelude.{Some}
use mathlib.Core.Path.{◌≡◌}
use mathlib.Core.List.{List}
use Prim.Native.Nat.{ℕ, ◌+◌, ◌-◌}
use lib.ListN.{length, drop}
use lib.Seq.{sets}
use Rattle.kinds.specs.declared.Delimiters.{Delimiters}
use Rattle.escaping.specs.Unescape.{unescaped}
use Rattle.escaping.specs.Inner.Passes.{plain}
use Rattle.escaping.proofs.without_escapes.write.Given as goal

-- before a turn: what is left is accepted, and what is stored, with what is left to store, is all
pub record Storing (d : Delimiters) (text out₀ out : List ℕ) (n o i : ℕ) : Type 0 where
  pub left : List ℕ
  pub accepted : unescaped d (drop i text) ≡ Some left
  pub out_length : length out ≡ length out₀
  pub counted : o + length left ≡ n
  pub all_stored_law : sets out o left ≡ sets out₀ 0 (plain d text)

abbrev pub invariant-loop-o : goal.invariant-loop-o
invariant-loop-o l = Storing l.d l.text l.initial.out l.out l.n l.o l.i

abbrev pub decreases-loop-o : goal.decreases-loop-o
decreases-loop-o l = l.n - l.o

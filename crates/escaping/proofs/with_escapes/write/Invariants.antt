-- `escaping::with_escapes::write` meets its contract: what is stored, with what is left to store, is all.
-- Assumes nothing.
use mathlib.Core.Path.{◌≡◌}
use mathlib.Core.List.{List}
use Prim.Native.Nat.{ℕ, ◌+◌}
use lib.ListN.{length, drop}
use lib.Seq.{sets}
use Rattle.kinds.specs.declared.Delimiters.{Delimiters}
use Rattle.escaping.specs.Escape.{escaped}
use Rattle.escaping.proofs.with_escapes.write.Given as goal

-- before a turn: what is stored, with what is left to store, is all
pub record Storing (d : Delimiters) (text out₀ out : List ℕ) (o i : ℕ) : Type 0 where
  pub out_length : length out ≡ length out₀
  pub counted : o + length (escaped d (drop i text)) ≡ length (escaped d text)
  pub all_stored_law : sets out o (escaped d (drop i text)) ≡ sets out₀ 0 (escaped d text)

abbrev pub invariant-loop-b : goal.invariant-loop-b
invariant-loop-b l = Storing l.d l.text l.initial.out l.out l.o l.b-index

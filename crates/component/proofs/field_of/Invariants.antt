-- `component::field_of` meets its contract: the fields that are left to pass, from the place reached, lead to the field asked for.
-- Assumes nothing.
use mathlib.Core.Path.{◌≡◌}
use mathlib.Core.List.{List}
use Prim.Native.Nat.{ℕ, ◌+◌, ◌-◌, ◌≤◌}
use lib.ListN.{length, drop}
use Rattle.records.specs.Fields.{field_of}
use Rattle.component.proofs.field_of.Given as goal

-- before a turn: the fields left to pass, from `at` on, lead to the field asked for
pub record Passing (rec : List ℕ) (b n at left : ℕ) : Type 0 where
  pub at_within : at ≤ length rec + 1
  pub left_within : left ≤ n
  pub some_left : 1 ≤ left
  pub same_field : field_of b left (drop at rec) ≡ field_of b n rec

abbrev pub invariant-loop : goal.invariant-loop
invariant-loop l = Passing l.rec l.b l.n l.at (l.n + 1 - l.counter)

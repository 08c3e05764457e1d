-- `owner::rows::fill_rows` meets its contract: the rows stored, with those still to store, are all.
-- Assumes nothing.
use mathlib.Core.Path.{◌≡◌}
use mathlib.Core.List.{List}
use Prim.Native.Nat.{ℕ, ◌+◌, ◌-◌, ◌≤◌}
use lib.ListN.{length, drop}
use lib.Seq.{sets}
use Rattle.records.specs.Records.{records}
use Rattle.owner.specs.Owners.{types_of}
use Rattle.owner.specs.Reading.{offsets_of, lengths_of}
use Rattle.owner.proofs.rows.fill_rows.Given as goal

-- before a turn: the rows stored, with those of the records still to come, are all
pub record Filling (text types₀ offsets₀ lengths₀ types offsets lengths : List ℕ) (at n : ℕ) : Type 0 where
  pub at_within : at ≤ length text + 1
  pub counted : n + length (records (drop at text)) ≡ length (records text)
  pub types_length : length types ≡ length types₀
  pub offsets_length : length offsets ≡ length offsets₀
  pub lengths_length : length lengths ≡ length lengths₀
  pub all_types : sets types n (types_of (records (drop at text))) ≡ sets types₀ 0 (types_of (records text))
  pub all_offsets : sets offsets n (offsets_of at (records (drop at text))) ≡ sets offsets₀ 0 (offsets_of 0 (records text))
  pub all_lengths : sets lengths n (lengths_of (records (drop at text))) ≡ sets lengths₀ 0 (lengths_of (records text))

abbrev pub invariant-loop-at : goal.invariant-loop-at
invariant-loop-at l = Filling l.text l.initial.types l.initial.offsets l.initial.lengths l.types l.offsets l.lengths l.at l.n

abbrev pub decreases-loop-at : goal.decreases-loop-at
decreases-loop-at l = length l.text + 1 - l.at

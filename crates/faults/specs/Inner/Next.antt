-- A record behind the header, by its bytes: whether it may come next, and the counts behind it.
-- Assumes nothing.
use Rattle.std.specs.Prelude.{ℕ, List, Bool}
use Rattle.faults.specs.Message.{type_in, number_in, is_next, next_counts}
use Rattle.kinds.specs.declared.Delimiters.{Delimiters}
use Rattle.sequence.specs.declared.Counts.{Counts}

abbrev pub comes : Delimiters → Counts → List ℕ → Bool
comes d s r = is_next s (type_in d r) (number_in d r)

abbrev pub counts_behind : Delimiters → Counts → List ℕ → Counts
counts_behind d s r = next_counts s (type_in d r) (number_in d r)

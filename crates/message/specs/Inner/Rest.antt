-- The rest of a text behind some of its records: whether they and it are a message, and what an array of counts holds of those passed.
-- Assumes nothing.
use Rattle.std.specs.Prelude.{◌≡◌, ℕ, Bool, true, false, not, ◌&&◌, List, [], length, None, Option, Some, slice_index, slice_index_or}
use Rattle.memory.specs.Tests.{all}
use Rattle.characters.specs.Allowed.{allowed, ordinary}
use Rattle.kinds.specs.Kinds.{may_follow, is_terminator}
use Rattle.kinds.specs.Inner.Rows.{row_of}
use Rattle.records.specs.Records.{records}
use Rattle.faults.specs.Message.{are_next}
use Rattle.faults.specs.Inner.Next.{comes, counts_behind}
use Rattle.kinds.specs.declared.Delimiters.{Delimiters}
use Rattle.kinds.specs.declared.Kind.{Kind}
use Rattle.sequence.specs.declared.Counts.{Counts}

-- a byte that breaks a record off: CR, or one that is not allowed
abbrev pub breaks : ℕ → Bool
breaks b = not (ordinary b)

-- a message's rest, by the counts of the records in front of it
unfoldable pub right_rest : Delimiters → Counts → List ℕ → Bool
right_rest d s text = all allowed text && are_next d s (records text)

-- the counts that the last other record's type and an array hold, a count for each type's row
abbrev pub counts_of : Kind → List ℕ → Counts
counts_of other ns =
    record { other = other; patients = slice_index ns 1; queries = slice_index ns 4; orders = slice_index ns 2; results = slice_index ns 3; comments = slice_index ns 6; manufacturers = slice_index ns 7 }

-- a count for each of the eight; as nothing follows L, none was counted unless it is the last
abbrev pub Tally : Kind → List ℕ → Type 0
Tally other ns = (length ns ≡ 8) × (is_terminator other ≡ false → slice_index ns 5 ≡ 0)

-- what a record leads to: no type if it may not come next, and else a type that holds with an array the counts behind it
abbrev pub LedTo : Delimiters → Counts → List ℕ → Option Kind → List ℕ → Type 0
LedTo d s r None ns = comes d s r ≡ false
LedTo d s r (Some other) ns = (comes d s r ≡ true) × (counts_behind d s r ≡ counts_of other ns) × Tally other ns

-- each entry of a table of followers is its rule's
abbrev pub Follows : List (List Bool) → Type 0
Follows rows = (other k : Kind) → slice_index_or (slice_index_or rows (row_of other) []) (row_of k) false ≡ may_follow other k

-- What a message is: allowed bytes, not none and not over the limit, made of records that CR ends: a header that names four allowed delimiters, records of which each
-- may come next, read by these four, and L the last.
-- Assumes nothing.
use Rattle.kinds.specs.declared.Kind.{Kind}
use Rattle.std.specs.Prelude.{ℕ, ◌+◌, List, [], ◌∷◌, Bool, false, ◌&&◌, eqb, length, None, Option, Some}
use Rattle.memory.specs.Sizes.{message_limit}
use Rattle.memory.specs.Tests.{between, all}
use Rattle.characters.specs.Allowed.{allowed}
use Rattle.kinds.specs.Kinds.{type_of, may_follow, is_terminator}
use Rattle.kinds.specs.Header.{is_header}
use Rattle.kinds.specs.Delimiters.{delimiters_of, are_delimiters}
use Rattle.records.specs.Fields.{field_of}
use Rattle.records.specs.Records.{records, ends_with_cr}
use Rattle.sequence.specs.Numbers.{number_of, started, count_of, counted}
use Rattle.kinds.specs.declared.Delimiters.{Delimiters}
use Rattle.sequence.specs.declared.Counts.{Counts}

-- field 1 of a record behind the header names its type, and field 2 is its number
abbrev pub type_in : Delimiters → List ℕ → Option Kind
type_in d r = type_of (field_of d.field 1 r)

abbrev pub number_in : Delimiters → List ℕ → ℕ
number_in d r = number_of (field_of d.field 2 r)

-- a record may come next: its type is known and may follow the last other record, and its number is the next of its count [R6, R8]
abbrev pub is_next : Counts → Option Kind → ℕ → Bool
is_next s None n = false
is_next s (Some k) n = may_follow s.other k && eqb n (count_of s k + 1)

-- the counts behind it
abbrev pub next_counts : Counts → Option Kind → ℕ → Counts
next_counts s None n = s
next_counts s (Some k) n = counted s k n

-- the records behind the header: each may come next, and at the end the last other record is L; as nothing may follow L, it stands last [R3]
abbrev pub are_next : Delimiters → Counts → List (List ℕ) → Bool
are_next d s [] = is_terminator s.other
are_next d s (r ∷ rs) = is_next s (type_in d r) (number_in d r) && are_next d (next_counts s (type_in d r) (number_in d r)) rs

-- all records: a header with an allowed four, and those behind it [R3]
abbrev pub are_records : Delimiters → List (List ℕ) → Bool
are_records d [] = false
are_records d (r ∷ rs) = is_header d r && are_delimiters d && are_next d started rs

-- a text is a message by these delimiters [R1]
unfoldable pub is_message_by : Delimiters → List ℕ → Bool
is_message_by d text = between 1 message_limit (length text) && all allowed text && ends_with_cr text && are_records d (records text)

-- a text is a message, by the delimiters in force in it [R1, R2, R11]
abbrev pub is_message : List ℕ → Bool
is_message text = is_message_by (delimiters_of text) text

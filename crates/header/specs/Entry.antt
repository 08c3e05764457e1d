-- One entry: its bytes, and whether bytes start with one.
-- Assumes nothing.
use Rattle.std.specs.Prelude.{ℕ, List, ◌++◌, Bool, cond, ◌&&◌, length, leb, eqb, Option, Some, None}
use Rattle.memory.specs.Sizes.{message_limit}
use Rattle.memory.specs.Parts.{part}
use Rattle.memory.specs.Tests.{between}
use Rattle.header.specs.Header.{least_head, head_size, entry_size, header, head_of}
use Rattle.header.specs.declared.Header.{Header}

pub record Entry : Type 0 where
  pub line : ℕ
  pub serial : ℕ
  pub text : List ℕ

-- the bytes of an entry, and how many they are [J1]
unfoldable pub encode : Entry → List ℕ
encode e = header e.line (length e.text) e.serial ++ e.text

unfoldable pub size : Entry → ℕ
size e = entry_size (length e.text)

-- a text has 1 to 4,000 bytes [J9]
abbrev pub is_text : ℕ → Bool
is_text n = between 1 message_limit n

-- a header of an entry that lies within n bytes: spare bit 0, a text's length, and room for all of that text [J9]
abbrev pub is_head : Header → ℕ → Bool
is_head h n = eqb h.spare 0 && (is_text h.count && leb (entry_size h.count) n)

-- bytes start with a whole entry
unfoldable pub starts : List ℕ → Bool
starts bs = leb least_head (length bs) && is_head (head_of bs) (length bs)

-- the entry that they start with
unfoldable pub first : List ℕ → Entry
first bs = record { line = (head_of bs).line; serial = (head_of bs).serial; text = part bs (head_size (head_of bs).count) (head_of bs).count }

-- its header; none where they start with no whole entry
unfoldable pub first_head : List ℕ → Option Header
first_head bs = cond (starts bs) (Some (head_of bs)) None

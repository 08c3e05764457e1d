-- The header of an entry. Its fields, the highest bits first: line (3 bits), spare (1), length of the text (12), serial (16).
-- Assumes nothing.
use Rattle.std.specs.Prelude.{ℕ, ◌+◌, List, [], ◌∷◌, get_or}
use Rattle.memory.specs.Parts.{part}
use Rattle.packed.specs.Fields.{pack, unpack, octets}
use Rattle.header.specs.declared.Header.{Header}

-- the widths in bits of line, spare, text length and serial [J2]
abbrev pub head_widths : List ℕ
head_widths = 3 ∷ 1 ∷ 12 ∷ 16 ∷ []

-- how many serials there are: the one after the last is 0 [J3]
abbrev pub serial_count : ℕ
serial_count = 65536

-- the bytes that these fields stand in: no header is shorter
abbrev pub least_head : ℕ
least_head = 4

-- the bytes of a header, by the length of its text. Shut for all but the header's own laws, since request [6] gives long texts a longer one.
unfoldable pub head_size : ℕ → ℕ
head_size n = least_head

-- the room that an entry takes, by the length of its text: the header is counted [J4]
abbrev pub entry_size : ℕ → ℕ
entry_size n = head_size n + n

-- the number that a header spells, spare bit 0, and its bytes [J2]
abbrev pub head_number : ℕ → ℕ → ℕ → ℕ
head_number line n serial = pack head_widths (line ∷ 0 ∷ n ∷ serial ∷ [])

unfoldable pub header : ℕ → ℕ → ℕ → List ℕ
header line n serial = unpack (octets (head_size n)) (head_number line n serial)

-- the header that a number spells, and the one that bytes start with [J2]
abbrev pub fields_of : List ℕ → Header
fields_of fs = record { line = get_or fs 0 0; spare = get_or fs 1 0; count = get_or fs 2 0; serial = get_or fs 3 0 }

unfoldable pub head_of : List ℕ → Header
head_of bs = fields_of (unpack head_widths (pack (octets least_head) (part bs 0 least_head)))

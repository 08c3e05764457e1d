-- The thirteen examples of rule P5, as one list: what the definitions give, and what is expected.
-- Assumes nothing.
use Rattle.std.specs.Prelude.{ℕ, Bool, cond, List, [], ◌∷◌, ◌++◌, length, get_or, replicate, set}
use Rattle.memory.specs.Sizes.{lines, frame_limit}
use Rattle.characters.specs.Control.{etb, etx}
use Rattle.digits.specs.Check.{check_of, digits_of}
use Rattle.faults.specs.Message.{is_message}
use Rattle.cutting.specs.Frames.{cut_of}
use Rattle.header.specs.Header.{entry_size}
use Rattle.room.specs.Room.{todays_shares, fits}
use Rattle.journal.specs.Storage.{grown}
use Rattle.journal.specs.declared.Ledger.{Ledger}

-- L|1|N CR, H|\^& CR, and both
abbrev pub terminator : List ℕ
terminator = 0x4c ∷ 0x7c ∷ 0x31 ∷ 0x7c ∷ 0x4e ∷ 0x0d ∷ []

abbrev pub header : List ℕ
header = 0x48 ∷ 0x7c ∷ 0x5c ∷ 0x5e ∷ 0x26 ∷ 0x0d ∷ []

abbrev pub both : List ℕ
both = header ++ terminator

-- the two digits of the check of a frame with this number's digit, text and end
abbrev pub check_digits : ℕ → List ℕ → ℕ → List ℕ
check_digits digit text end = let d = digits_of (check_of (digit ∷ text ++ end ∷ [])) in d.high ∷ d.low ∷ []

-- a test as a number
abbrev pub holds : Bool → List ℕ
holds t = cond t (1 ∷ []) (0 ∷ [])

-- line 0 with this used count, the other lines empty
abbrev pub alone : ℕ → List ℕ
alone n = set (replicate lines 0) 0 n

-- line 0 with this serial
abbrev pub at_serial : ℕ → Ledger
at_serial n = record { in_use = 0; used = replicate lines 0; serials = set (replicate lines 0) 0 n }

pub record Example : Type 0 where
  pub gives : List ℕ
  pub says : List ℕ

abbrev pub example : List ℕ → List ℕ → Example
example gives says = record { gives = gives; says = says }

-- what the definitions give, and what is expected [P5]
abbrev pub examples : List Example
examples =
    example (check_digits 0x31 terminator etx) (0x30 ∷ 0x34 ∷ [])
    ∷ example (check_digits 0x32 terminator etx) (0x30 ∷ 0x35 ∷ [])
    ∷ example (check_digits 0x31 [] etb) (0x34 ∷ 0x38 ∷ [])
    ∷ example (check_digits 0x31 [] etx) (0x33 ∷ 0x34 ∷ [])
    ∷ example (check_digits 0x31 header etx) (0x45 ∷ 0x35 ∷ [])
    ∷ example (check_digits 0x31 both etx) (0x42 ∷ 0x35 ∷ [])
    ∷ example (holds (is_message both)) (1 ∷ [])
    ∷ example (length (cut_of frame_limit both) ∷ []) (26 ∷ [])
    ∷ example (entry_size (length both) ∷ []) (16 ∷ [])
    ∷ example (holds (is_message terminator)) (0 ∷ [])
    ∷ example (holds (fits todays_shares (alone 18432))) (1 ∷ [])
    ∷ example (holds (fits todays_shares (alone 18433))) (0 ∷ [])
    ∷ example (get_or (grown (at_serial 65535) 0 1).serials 0 0 ∷ []) (0 ∷ [])
    ∷ []

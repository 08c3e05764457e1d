-- Texts with other delimiters than | \ ^ &, and headers that name none.
-- Assumes nothing.
use Rattle.std.specs.Prelude.{Err}
use Rattle.faults.specs.declared.Flaw.TheVariants.{Faulty}
use mathlib.Core.Path.{◌≡◌, refl}
use mathlib.Core.Bool.{true}
use mathlib.Core.List.{List, [], ◌∷◌, ◌++◌}
use Prim.Native.Nat.{ℕ}
use Rattle.characters.specs.Allowed.{allowed}
use Rattle.kinds.specs.Delimiters.{delimiters_of, is_delimiter, different, are_delimiters}
use Rattle.kinds.specs.Header.{is_header}
use Rattle.kinds.specs.Kinds.{kind_of, type_of, may_follow}
use Rattle.sequence.specs.Numbers.{number_of}
use Rattle.faults.specs.Message.{is_message_by, is_message}
use Rattle.faults.specs.Faults.{kind_step, record_step, header_step, records_fault, fault, fault_of}
use Rattle.answers.specs.declared.Fault.TheVariants.{NoHeader, UnknownType, Misplaced, BadDelimiters}

-- H!~$% CR
abbrev header : List ℕ
header = 0x48 ∷ 0x21 ∷ 0x7e ∷ 0x24 ∷ 0x25 ∷ 0x0d ∷ []

-- L!1!N CR behind it: a message
pub other_four : is_message (header ++ 0x4c ∷ 0x21 ∷ 0x31 ∷ 0x21 ∷ 0x4e ∷ 0x0d ∷ []) ≡ true
unfolding is_message_by allowed delimiters_of is_delimiter different are_delimiters is_header kind_of type_of may_follow number_of
other_four = refl

-- L|1|N CR behind it: its field 1 is the whole record, which names no type
pub other_record : fault_of (header ++ 0x4c ∷ 0x7c ∷ 0x31 ∷ 0x7c ∷ 0x4e ∷ 0x0d ∷ []) ≡ Err (Faulty UnknownType 2)
unfolding fault records_fault header_step record_step kind_step allowed delimiters_of is_delimiter different are_delimiters is_header kind_of type_of
other_record = refl

-- nothing behind it
pub header_alone : fault_of header ≡ Err (Faulty Misplaced 1)
unfolding fault records_fault header_step allowed delimiters_of is_delimiter different are_delimiters is_header
header_alone = refl

-- H|\|& CR: twice the same byte; H|\^A CR: a letter
pub equal_pair : fault_of (0x48 ∷ 0x7c ∷ 0x5c ∷ 0x7c ∷ 0x26 ∷ 0x0d ∷ []) ≡ Err (Faulty BadDelimiters 1)
unfolding fault records_fault header_step allowed delimiters_of is_delimiter different are_delimiters is_header
equal_pair = refl

pub letter : fault_of (0x48 ∷ 0x7c ∷ 0x5c ∷ 0x5e ∷ 0x41 ∷ 0x0d ∷ []) ≡ Err (Faulty BadDelimiters 1)
unfolding fault records_fault header_step allowed delimiters_of is_delimiter different are_delimiters is_header
letter = refl

-- H|\^ CR: a byte too few, though the CR stands where the fourth would
pub too_short : fault_of (0x48 ∷ 0x7c ∷ 0x5c ∷ 0x5e ∷ 0x0d ∷ []) ≡ Err (Faulty NoHeader 1)
unfolding fault records_fault header_step allowed delimiters_of is_header
too_short = refl

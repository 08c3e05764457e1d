-- The number of each answer, the values that it carries, and the byte that goes out with it.
-- Assumes nothing.
use Rattle.std.specs.Prelude.{ℕ, Bool, cond, ◌||◌, List, [], ◌∷◌, leb, ltb, get_or, None, Option, Some}
use Rattle.memory.specs.Tests.{between}
use Rattle.characters.specs.Control.{stx, enq, eot}
use Rattle.answers.specs.declared.Fault.{Fault}
use Rattle.answers.specs.declared.Fault.TheVariants.{NoHeader, UnknownType, Misplaced, Misnumbered, NoFinalCr, BadDelimiters}
use Rattle.answers.specs.declared.Answer.{Answer}
use Rattle.answers.specs.declared.Answer.TheVariants.{Nothing, Opened, Accepted, Repeated, Stored, Ended, Dropped, TimedOut, Taken, Sends, Busy, Unended, Torn, WrongCheck, BadText, BadNumber, Refusing, OutOfTurn, TooLong, NoCr, NoMessage, NoRoom, NoLine, WrongSize, BeyondLimits, Broken, NothingWaiting, BufferShort, Malformed, NotFitting, Faulty, Unsendable, NotNeutral, GivenUp, Filed, Heard, Noted, Crowded, OddLength, OddTest, OddByte}
use Rattle.answers.specs.declared.Parcel.{Parcel}
use Rattle.answers.specs.declared.Parcel.TheVariants.{Empty, Enquiry, Ending, Frame}

-- the number of a fault of the records [A50, A51, A52, A53, A54, A55]
abbrev pub fault_number : Fault → ℕ
fault_number NoHeader = 50
fault_number UnknownType = 51
fault_number Misplaced = 52
fault_number Misnumbered = 53
fault_number NoFinalCr = 54
fault_number BadDelimiters = 55

-- whether a number tells of such a fault
abbrev pub is_faulty : ℕ → Bool
is_faulty n = between 50 55 n

-- the answer's number [O2]
abbrev pub number_of : Answer → ℕ
number_of Nothing = 0
number_of Opened = 1
number_of Accepted = 2
number_of Repeated = 3
number_of Stored = 4
number_of Ended = 5
number_of Dropped = 6
number_of TimedOut = 7
number_of (Taken length serial) = 8
number_of (Sends p) = 9
number_of Busy = 20
number_of Unended = 21
number_of Torn = 22
number_of WrongCheck = 23
number_of BadText = 24
number_of BadNumber = 25
number_of Refusing = 26
number_of OutOfTurn = 27
number_of TooLong = 28
number_of NoCr = 29
number_of NoMessage = 30
number_of NoRoom = 31
number_of NoLine = 40
number_of WrongSize = 41
number_of BeyondLimits = 42
number_of Broken = 43
number_of NothingWaiting = 44
number_of BufferShort = 45
number_of Malformed = 46
number_of NotFitting = 47
number_of (Faulty f place) = fault_number f
number_of (Unsendable f place) = fault_number f
number_of NotNeutral = 60
number_of GivenUp = 61
number_of Filed = 4
number_of Heard = 11
number_of Noted = 11
number_of Crowded = 31
number_of OddLength = 70
number_of OddTest = 71
number_of OddByte = 72

-- what it carries: an entry taken has its text's length and its serial, and a fault the place of its record [A8, O2, R22]
abbrev pub values_of : Answer → List ℕ
values_of Nothing = []
values_of Opened = []
values_of Accepted = []
values_of Repeated = []
values_of Stored = []
values_of Ended = []
values_of Dropped = []
values_of TimedOut = []
values_of (Taken length serial) = length ∷ serial ∷ []
values_of (Sends p) = []
values_of Busy = []
values_of Unended = []
values_of Torn = []
values_of WrongCheck = []
values_of BadText = []
values_of BadNumber = []
values_of Refusing = []
values_of OutOfTurn = []
values_of TooLong = []
values_of NoCr = []
values_of NoMessage = []
values_of NoRoom = []
values_of NoLine = []
values_of WrongSize = []
values_of BeyondLimits = []
values_of Broken = []
values_of NothingWaiting = []
values_of BufferShort = []
values_of Malformed = []
values_of NotFitting = []
values_of (Faulty f place) = place ∷ []
values_of (Unsendable f place) = place ∷ []
values_of NotNeutral = []
values_of GivenUp = []
values_of Filed = []
values_of Heard = []
values_of Noted = []
values_of Crowded = []
values_of OddLength = []
values_of OddTest = []
values_of OddByte = []

-- the place that a fault carries; 0 for every other answer [H5]
abbrev pub place_of : Answer → ℕ
place_of a = cond (is_faulty (number_of a)) (get_or (values_of a) 0 0) 0

-- the bytes that are sent back [O1]
abbrev pub ack : ℕ
ack = 0x06

abbrev pub nak : ℕ
nak = 0x15

-- 1 to 4 are acknowledged, 20 to 31 and faults are not, and the others get no reply [O1]
unfoldable pub reply_of : ℕ → Option ℕ
reply_of n = cond (ltb n 1) None (cond (leb n 4) (Some ack) (cond (ltb n 20) None (cond (leb n 31 || is_faulty n) (Some nak) None)))

-- the first byte of what a sending has to send: a frame begins with STX [S2]
abbrev pub parcel_byte : Parcel → Option ℕ
parcel_byte Empty = None
parcel_byte Enquiry = Some enq
parcel_byte Ending = Some eot
parcel_byte Frame = Some stx

-- the first byte that goes out with an answer: a sending's is its parcel's; a text that is not sent is answered to who wanted to send it, and no byte goes out;
-- what a strip reader gets is a block, which begins with STX, or nothing [O1, S2, B11]
abbrev pub first_out : Answer → Option ℕ
first_out Nothing = reply_of 0
first_out Opened = reply_of 1
first_out Accepted = reply_of 2
first_out Repeated = reply_of 3
first_out Stored = reply_of 4
first_out Ended = reply_of 5
first_out Dropped = reply_of 6
first_out TimedOut = reply_of 7
first_out (Taken length serial) = reply_of 8
first_out (Sends p) = parcel_byte p
first_out Busy = reply_of 20
first_out Unended = reply_of 21
first_out Torn = reply_of 22
first_out WrongCheck = reply_of 23
first_out BadText = reply_of 24
first_out BadNumber = reply_of 25
first_out Refusing = reply_of 26
first_out OutOfTurn = reply_of 27
first_out TooLong = reply_of 28
first_out NoCr = reply_of 29
first_out NoMessage = reply_of 30
first_out NoRoom = reply_of 31
first_out NoLine = reply_of 40
first_out WrongSize = reply_of 41
first_out BeyondLimits = reply_of 42
first_out Broken = reply_of 43
first_out NothingWaiting = reply_of 44
first_out BufferShort = reply_of 45
first_out Malformed = reply_of 46
first_out NotFitting = reply_of 47
first_out (Faulty f place) = reply_of (fault_number f)
first_out (Unsendable f place) = None
first_out NotNeutral = reply_of 60
first_out GivenUp = reply_of 61
first_out Filed = Some stx
first_out Heard = Some stx
first_out Noted = reply_of 11
first_out Crowded = None
first_out OddLength = Some stx
first_out OddTest = Some stx
first_out OddByte = Some stx

-- The answers by what they leave: the rows of the rules L1 to L12.
-- Assumes nothing.
use Rattle.answers.specs.declared.Answer.{Answer}
use Rattle.answers.specs.declared.Answer.TheVariants.{Nothing, Opened, Accepted, Repeated, Stored, Ended, Dropped, TimedOut, Taken, Sends, Busy, Unended, Torn, WrongCheck, BadText, BadNumber, Refusing, OutOfTurn, TooLong, NoCr, NoMessage, NoRoom, NoLine, WrongSize, BeyondLimits, Broken, NothingWaiting, BufferShort, Malformed, NotFitting, Faulty, Unsendable, NotNeutral, GivenUp, Filed, Heard, Noted, Crowded, OddLength, OddTest, OddByte}
use Rattle.answers.specs.declared.Parcel.TheVariants.{Empty, Enquiry, Ending, Frame}

-- quiet: 0, 20, 40 to 47, 60, and a fault of a text that is not sent; opening: 1; closing: 5, 6, 7, 61, and 9 with our EOT; refusing: 3 and 21 to 29; deciding against:
-- 30, 31 and faults; sending: the other 9; hearing: 11 and 70 to 72, a reader's block that does not decide; and 2, 4, 8
pub data Class : Type 0 where
  quiet opening closing refusing accepting storing against taking sending hearing : Class

abbrev pub class_of : Answer → Class
class_of Nothing = quiet
class_of Opened = opening
class_of Accepted = accepting
class_of Repeated = refusing
class_of Stored = storing
class_of Ended = closing
class_of Dropped = closing
class_of TimedOut = closing
class_of (Taken length serial) = taking
class_of (Sends Empty) = sending
class_of (Sends Enquiry) = sending
class_of (Sends Ending) = closing
class_of (Sends Frame) = sending
class_of Busy = quiet
class_of Unended = refusing
class_of Torn = refusing
class_of WrongCheck = refusing
class_of BadText = refusing
class_of BadNumber = refusing
class_of Refusing = refusing
class_of OutOfTurn = refusing
class_of TooLong = refusing
class_of NoCr = refusing
class_of NoMessage = against
class_of NoRoom = against
class_of NoLine = quiet
class_of WrongSize = quiet
class_of BeyondLimits = quiet
class_of Broken = quiet
class_of NothingWaiting = quiet
class_of BufferShort = quiet
class_of Malformed = quiet
class_of NotFitting = quiet
class_of (Faulty f place) = against
class_of (Unsendable f place) = quiet
class_of NotNeutral = quiet
class_of GivenUp = closing
class_of Filed = storing
class_of Heard = hearing
class_of Noted = hearing
class_of Crowded = against
class_of OddLength = hearing
class_of OddTest = hearing
class_of OddByte = hearing

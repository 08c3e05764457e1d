-- The answers that go with an act, and their class.
-- Assumes nothing.
use Rattle.std.specs.Prelude.{◌≡◌}
use Rattle.answers.specs.declared.Answer.{Answer}
use Rattle.answers.specs.declared.Answer.TheVariants.{Nothing, Opened, Accepted, Stored, Sends}
use Rattle.answers.specs.declared.Parcel.TheVariants.{Empty}
use Rattle.looking.specs.Verdicts.{parcel_of}
use Rattle.looking.specs.declared.Act.{Act}
use Rattle.looking.specs.declared.Act.TheVariants.{Leave, Open, Close, Begin, Count, Collect, Refuse, Accept, Store, Object, Await, Go}
use Rattle.gateway_laws.specs.Classes.{Class, quiet, opening, closing, refusing, accepting, storing, against, sending, class_of}

abbrev pub act_class : Act → Class
act_class Leave = quiet
act_class Open = opening
act_class Close = closing
act_class Begin = quiet
act_class (Count n) = quiet
act_class Collect = quiet
act_class Refuse = refusing
act_class (Accept n) = accepting
act_class (Store n) = storing
act_class (Object n) = against
act_class (Await n) = sending
act_class (Go s n) = sending

-- an answer goes with an act: where an act has more than one, by its class
abbrev pub Goes : Act → Answer → Type 0
Goes Leave a = class_of a ≡ quiet
Goes Open a = a ≡ Opened
Goes Close a = class_of a ≡ closing
Goes Begin a = a ≡ Nothing
Goes (Count n) a = a ≡ Nothing
Goes Collect a = a ≡ Nothing
Goes Refuse a = class_of a ≡ refusing
Goes (Accept n) a = a ≡ Accepted
Goes (Store n) a = a ≡ Stored
Goes (Object n) a = class_of a ≡ against
Goes (Await n) a = a ≡ Sends Empty
Goes (Go s n) a = a ≡ Sends (parcel_of s)
